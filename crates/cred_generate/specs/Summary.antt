-- What is told of a journal in one line.
use Rattle.std.specs.Prelude.{◌≤◌, ◌<◌, ◌+◌, ◌^◌, ℕ, Bool, not, List, length, count_by, fold}
use Rattle.cred_event.specs.declared.entry.Entry.{Entry}
use Rattle.cred_model.specs.Script.{Script}
use Rattle.cred_event.specs.Answers.{is_ok}
use Rattle.cred_model.specs.Journal.{replay}
use Rattle.cred_generate.specs.Sealed.{count_with}
use Rattle.cred_generate.specs.declared.summing.Summary.{Summary}

-- the entry's answer is a refusal
abbrev pub is_refused : Entry → Bool
is_refused entry = not (is_ok entry.answer)

-- The number of the script's lines, of the journal's entries, of the credentials that are sealed in
-- the state that it leads to, and of the entries that were refused.
abbrev pub summary : Script → List Entry → Summary
summary script journal = record {
  lines = length script.lines;
  entries = length journal;
  credentials = length (replay script journal).creds;
  refusals = count_by is_refused journal;
}

-- what is told of a script before it has run
abbrev pub nothing_told : Script → Summary
nothing_told script = record {
  lines = length script.lines;
  entries = 0;
  credentials = 0;
  refusals = 0;
}

-- what is told after some entries more, as their answers say
abbrev pub told_on : Summary → List Entry → Summary
told_on told entries = record told {
  entries = told.entries + length entries;
  credentials = fold (λ count entry. count_with count entry.answer) told.credentials entries;
  refusals = told.refusals + count_by is_refused entries;
}

-- `more` entries can still be counted.
pub record HasRoom (told : Summary) (more : ℕ) : Type 0 where
  pub entries : told.entries + more < 2 ^ 64
  pub credentials : told.credentials ≤ told.entries
  pub refusals : told.refusals ≤ told.entries
