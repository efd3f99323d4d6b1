use Rattle.cred_spelling.proofs.LineWords.{word_before}
use Rattle.cred_spelling.proofs.line_words.first_word.Goals as goal

pub returns-clause-word : goal.returns-clause-word
returns-clause-word c = word_before _ _ _ c.split_at.ensures.front c.word_end.ensures.before
