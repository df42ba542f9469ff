use Rattle.asking.proofs.Lines.{begins_as}
use Rattle.asking.proofs.words.first_word.Goals as goal

pub returns-clause-word : goal.returns-clause-word
returns-clause-word c =
    begins_as c.split_at.ensures.back c.split_at-2.ensures.front c.split_at-2.ensures.back c.in_ok-start.ensures c.find.ensures.within.1 c.find.ensures.passed
    c.find.ensures.found
