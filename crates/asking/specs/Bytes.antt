-- To be believed: the bytes of a list, whichever way it came.
use Rattle.std.specs.Prelude.{List, ℕ, vec_len}
use Rattle.asking.specs.declared.lists.Bytes.{Bytes}
use Rattle.asking.specs.declared.lists.Bytes.TheVariants.{Numbers, Text}

-- how many bytes it has
abbrev pub size_of : Bytes → ℕ
size_of (Numbers bytes) = vec_len bytes
size_of (Text bytes) = vec_len bytes

-- what they are
abbrev pub bytes_of : Bytes → List ℕ
bytes_of (Numbers bytes) = bytes.items
bytes_of (Text bytes) = bytes.items
