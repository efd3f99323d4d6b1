use Rattle.std.proofs.Common.{◌≡◌, ◌+◌, true, false, sym, subst, ◌∙◌, IfSome}
use Rattle.cred_captext.proofs.Members.{AreWritten, written-none, written-with, written-without}
use Rattle.cred_captext.proofs.printing.append_names.Goals as goal
use Rattle.cred_captext.proofs.printing.append_names.Goals.{then-has+in_ok-append_next, else-has}

pub loop-number-init : goal.loop-number-init
loop-number-init c = written-none c.args.out.now.items c.args.set

pub loop-number-preserved : goal.loop-number-preserved
loop-number-preserved c =
    let same = subst
    (λ r. IfSome r (λ k. k ≡ c.loop-number.number)) c.unwrap-cap.ensures c.new.ensures.cap in
    elim c.if-has.branch [
      | then-has+in_ok-append_next w ↦
          subst (λ t. AreWritten c.args.out.now.items c.if-has.out.items t
          (c.loop-number.number + 1) c.args.set) (sym w.comma-is)
          (written-with c.args.out.now.items c.loop-number.out.items c.if-has.out.items
          c.loop-number.comma
          c.loop-number.number c.unwrap-cap.result c.args.set c.loop-number.invariant same
          (sym c.has.ensures ∙ w.if-has.true)
          ((λ i. (w.out-is i).items) ∙ w.in_ok-append_next.ensures))
      | else-has w ↦
          subst (λ t. AreWritten c.args.out.now.items c.if-has.out.items t
          (c.loop-number.number + 1) c.args.set) (sym w.comma-is)
          (subst (λ items. AreWritten c.args.out.now.items items c.loop-number.comma
          (c.loop-number.number + 1) c.args.set) (sym (λ i. (w.out-is i).items))
          (written-without c.args.out.now.items c.loop-number.out.items c.loop-number.comma
          c.loop-number.number c.unwrap-cap.result c.args.set c.loop-number.invariant same
          (sym c.has.ensures ∙ w.if-has.false)))
    ]
