-- A work stays its kernel's while it is decided.
use Rattle.std.proofs.Common.{◌≡◌, ◌∙◌, List, sym, ap, subst}
use Rattle.atomic_table.specs.Seated.{TableId}
use Rattle.cred_record.specs.File.{File}
use Rattle.cred_event.specs.declared.event.Event.{Event}
use Rattle.cred_work.specs.Decisions.{work_event}
use Rattle.cred_model.specs.Named.{event_files}
use Rattle.cred_model.specs.Script.{Script}
use Rattle.cred_model.specs.State.{info_of}
use Rattle.cred_state.proofs.TokensOut.{chain_stays, event_stays, of_stays}
use Rattle.cred_work.specs.Work.{Work}
use Rattle.cred_work.specs.DecidedWorks.{Stays}
use Rattle.cred_book.specs.Works.{IsWorkOf, MayMake}

-- the decided work is of the script, the files and the cells that it was of
pub work_stays : (script : Script) (inodes : List File) (cells : TableId) (before after : Work) → IsWorkOf script inodes cells before → Stays before after
    → IsWorkOf script inodes cells after
work_stays script inodes cells before after is stays =
    let event : work_event after.lent ≡ work_event before.lent = event_stays before.lent after.lent stays.lent in
    record {
      own = of_stays before.lent after.lent stays.lent cells is.own;
      made = subst (λ (e : Event). MayMake script after.line e) (sym event) (subst (λ n. MayMake script n (work_event before.lent)) (sym stays.line) is.made);
      file = stays.file ∙ is.file ∙ ap (λ (e : Event). info_of inodes (event_files e)) (sym event);
      chain = chain_stays before.lent after.lent stays.lent script after.chain (rw stays.chain is.chain);
    }
