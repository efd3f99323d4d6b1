use Rattle.std.proofs.Common.{◌≡◌, ◌+◌, take, length}
use Rattle.cred_record.specs.declared.layout.TheConstants.{WORDS, GROUPS}
use Rattle.cred_record.specs.Words.{words_of}
use Rattle.cred_record.proofs.Blank.{Blank}
use Rattle.cred_packed.proofs.writing.to_words.Given as goal

abbrev pub invariant-loop-i : goal.invariant-loop-i
invariant-loop-i l = (length l.words ≡ WORDS) × (take (GROUPS + l.i) l.words ≡ take (GROUPS + l.i) (words_of l.cred)) × Blank (GROUPS + l.i) l.words
