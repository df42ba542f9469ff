-- To be believed: the 188 rows of 3GPP TS 36.212, table 5.1.3-3.
use Rattle.std.specs.Prelude.{◌≡◌, List, [], ◌∷◌, ℕ, ◌<◌, get_or}
use Rattle.triples.specs.declared.Triple.{Triple}
use Rattle.triples.specs.Shuffles.{triple}

-- K, f1 and f2 of each row, K ascending.
unfoldable pub rows : List Triple
rows =
    triple 40 3 10 ∷ triple 48 7 12 ∷ triple 56 19 42 ∷ triple 64 7 16 ∷ triple 72 7 18 ∷ triple 80 11 20 ∷
    triple 88 5 22 ∷ triple 96 11 24 ∷ triple 104 7 26 ∷ triple 112 41 84 ∷ triple 120 103 90 ∷ triple 128 15 32 ∷
    triple 136 9 34 ∷ triple 144 17 108 ∷ triple 152 9 38 ∷ triple 160 21 120 ∷ triple 168 101 84 ∷ triple 176 21 44 ∷
    triple 184 57 46 ∷ triple 192 23 48 ∷ triple 200 13 50 ∷ triple 208 27 52 ∷ triple 216 11 36 ∷ triple 224 27 56 ∷
    triple 232 85 58 ∷ triple 240 29 60 ∷ triple 248 33 62 ∷ triple 256 15 32 ∷ triple 264 17 198 ∷ triple 272 33 68 ∷
    triple 280 103 210 ∷ triple 288 19 36 ∷ triple 296 19 74 ∷ triple 304 37 76 ∷ triple 312 19 78 ∷ triple 320 21 120 ∷
    triple 328 21 82 ∷ triple 336 115 84 ∷ triple 344 193 86 ∷ triple 352 21 44 ∷ triple 360 133 90 ∷ triple 368 81 46 ∷
    triple 376 45 94 ∷ triple 384 23 48 ∷ triple 392 243 98 ∷ triple 400 151 40 ∷ triple 408 155 102 ∷ triple 416 25 52 ∷
    triple 424 51 106 ∷ triple 432 47 72 ∷ triple 440 91 110 ∷ triple 448 29 168 ∷ triple 456 29 114 ∷ triple 464 247 58 ∷
    triple 472 29 118 ∷ triple 480 89 180 ∷ triple 488 91 122 ∷ triple 496 157 62 ∷ triple 504 55 84 ∷ triple 512 31 64 ∷
    triple 528 17 66 ∷ triple 544 35 68 ∷ triple 560 227 420 ∷ triple 576 65 96 ∷ triple 592 19 74 ∷ triple 608 37 76 ∷
    triple 624 41 234 ∷ triple 640 39 80 ∷ triple 656 185 82 ∷ triple 672 43 252 ∷ triple 688 21 86 ∷ triple 704 155 44 ∷
    triple 720 79 120 ∷ triple 736 139 92 ∷ triple 752 23 94 ∷ triple 768 217 48 ∷ triple 784 25 98 ∷ triple 800 17 80 ∷
    triple 816 127 102 ∷ triple 832 25 52 ∷ triple 848 239 106 ∷ triple 864 17 48 ∷ triple 880 137 110 ∷ triple 896 215 112 ∷
    triple 912 29 114 ∷ triple 928 15 58 ∷ triple 944 147 118 ∷ triple 960 29 60 ∷ triple 976 59 122 ∷ triple 992 65 124 ∷
    triple 1008 55 84 ∷ triple 1024 31 64 ∷ triple 1056 17 66 ∷ triple 1088 171 204 ∷ triple 1120 67 140 ∷ triple 1152 35 72 ∷
    triple 1184 19 74 ∷ triple 1216 39 76 ∷ triple 1248 19 78 ∷ triple 1280 199 240 ∷ triple 1312 21 82 ∷ triple 1344 211 252 ∷
    triple 1376 21 86 ∷ triple 1408 43 88 ∷ triple 1440 149 60 ∷ triple 1472 45 92 ∷ triple 1504 49 846 ∷ triple 1536 71 48 ∷
    triple 1568 13 28 ∷ triple 1600 17 80 ∷ triple 1632 25 102 ∷ triple 1664 183 104 ∷ triple 1696 55 954 ∷ triple 1728 127 96 ∷
    triple 1760 27 110 ∷ triple 1792 29 112 ∷ triple 1824 29 114 ∷ triple 1856 57 116 ∷ triple 1888 45 354 ∷ triple 1920 31 120 ∷
    triple 1952 59 610 ∷ triple 1984 185 124 ∷ triple 2016 113 420 ∷ triple 2048 31 64 ∷ triple 2112 17 66 ∷ triple 2176 171 136 ∷
    triple 2240 209 420 ∷ triple 2304 253 216 ∷ triple 2368 367 444 ∷ triple 2432 265 456 ∷ triple 2496 181 468 ∷ triple 2560 39 80 ∷
    triple 2624 27 164 ∷ triple 2688 127 504 ∷ triple 2752 143 172 ∷ triple 2816 43 88 ∷ triple 2880 29 300 ∷ triple 2944 45 92 ∷
    triple 3008 157 188 ∷ triple 3072 47 96 ∷ triple 3136 13 28 ∷ triple 3200 111 240 ∷ triple 3264 443 204 ∷ triple 3328 51 104 ∷
    triple 3392 51 212 ∷ triple 3456 451 192 ∷ triple 3520 257 220 ∷ triple 3584 57 336 ∷ triple 3648 313 228 ∷ triple 3712 271 232 ∷
    triple 3776 179 236 ∷ triple 3840 331 120 ∷ triple 3904 363 244 ∷ triple 3968 375 248 ∷ triple 4032 127 168 ∷ triple 4096 31 64 ∷
    triple 4160 33 130 ∷ triple 4224 43 264 ∷ triple 4288 33 134 ∷ triple 4352 477 408 ∷ triple 4416 35 138 ∷ triple 4480 233 280 ∷
    triple 4544 357 142 ∷ triple 4608 337 480 ∷ triple 4672 37 146 ∷ triple 4736 71 444 ∷ triple 4800 71 120 ∷ triple 4864 37 152 ∷
    triple 4928 39 462 ∷ triple 4992 127 234 ∷ triple 5056 39 158 ∷ triple 5120 39 80 ∷ triple 5184 31 96 ∷ triple 5248 113 902 ∷
    triple 5312 41 166 ∷ triple 5376 251 336 ∷ triple 5440 43 170 ∷ triple 5504 21 86 ∷ triple 5568 43 174 ∷ triple 5632 45 176 ∷
    triple 5696 45 178 ∷ triple 5760 161 120 ∷ triple 5824 89 182 ∷ triple 5888 323 184 ∷ triple 5952 47 186 ∷ triple 6016 23 94 ∷
    triple 6080 47 190 ∷ triple 6144 263 480 ∷ []

-- Row i, from 0.
abbrev pub row_at : ℕ → Triple
row_at i = get_or rows i (triple 0 0 0)

-- The triple is one of the rows.
pub record Row (t : Triple) : Type 0 where
  pub place : ℕ
  pub within : place < 188
  pub listed : row_at place ≡ t

-- The standard has a row of this length.
abbrev pub HasRow : ℕ → Type 0
HasRow k = (t : Triple) × (t.k ≡ k) × Row t
