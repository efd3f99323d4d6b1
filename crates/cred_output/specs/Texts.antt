-- What the commands write besides reports.
use Rattle.std.specs.Prelude.{ℕ, List, ◌++◌, codes, decimal}
use Rattle.cred_rules.specs.Attribute.{Attribute, Fault}
use Rattle.cred_filecap.specs.Refusals.{attr_refusal_of}
use Rattle.cred_filecap.specs.declared.refusal.AttrRefusal.{AttrRefusal}
use Rattle.cred_filecap.specs.declared.refusal.AttrRefusal.TheVariants.{BadLength, BadRevision}
use Rattle.cred_generate.specs.declared.summing.Summary.{Summary}
use Rattle.cred_report.specs.Numbers.{set_text, flag_text}
use Rattle.cred_spelling.specs.declared.reason.Reason.{Reason}
use Rattle.cred_spelling.specs.declared.reason.Reason.TheVariants.{Byte, Word, Count, Order, Name}
use Rattle.cred_spelling.specs.declared.reason.Reason.TheVariants.{Lane}

abbrev pub reason_text : Reason → List ℕ
reason_text Byte = codes "byte"
reason_text Word = codes "word"
reason_text Count = codes "count"
reason_text Order = codes "order"
reason_text Name = codes "name"
reason_text Lane = codes "lane"

-- to a script whose first bad line has this number, for this reason
abbrev pub bad_text : ℕ × Reason → List ℕ
bad_text bad = codes "bad " ++ decimal bad.0 ++ codes " " ++ reason_text bad.1 ++ codes "\n"

-- of what an attribute says
abbrev pub attr_text : Attribute → List ℕ
attr_text a =
    codes "version " ++ decimal a.version ++ codes " perm" ++ set_text a.perm ++ codes " inh" ++
    set_text a.inh
    ++ codes " effective" ++ flag_text a.effective ++ codes " root " ++ decimal a.root ++ codes "\n"

-- to bytes that are no attribute, for this reason
abbrev pub refusal_text : AttrRefusal → List ℕ
refusal_text (BadLength n) = codes "bad length " ++ decimal n ++ codes "\n"
refusal_text (BadRevision n) = codes "bad revision " ++ decimal n ++ codes "\n"

abbrev pub fault_text : Fault → List ℕ
fault_text fault = refusal_text (attr_refusal_of fault)

-- of the journal of a script that is made from a number
abbrev pub summary_text : Summary → List ℕ
summary_text s =
    codes "lines " ++ decimal s.lines ++ codes " entries " ++ decimal s.entries ++
    codes " credentials " ++ decimal s.credentials ++ codes " refusals " ++ decimal s.refusals ++
    codes "\n"
