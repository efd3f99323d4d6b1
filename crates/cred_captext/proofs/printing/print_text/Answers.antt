use Rattle.std.proofs.Common.{◌≡◌, ◌∷◌, [], ap, sym, subst, ◌∙◌, arith}
use Rattle.cred_caps.specs.Caps.{IsCaps, less}
use Rattle.cred_rules.specs.Attribute.{Attribute}
use Rattle.cred_captext.specs.Grammar.{clauses_text}
use Rattle.cred_captext.specs.Pieces.{with_clause, or_none}
use Rattle.cred_captext.specs.Printed.{clauses, printed, HasText}
use Rattle.cred_captext.specs.Reading.{TextSays}
use Rattle.cred_captext.proofs.Pieces.{three-more, none-is}
use Rattle.cred_captext.proofs.Printed.{printed-says}
use Rattle.cred_captext.proofs.printing.print_text.Goals as goal

-- the value as its fields give it
abbrev value : goal.After-from_vec → Attribute
value c = record {
  version = c.caps.inside.version;
  perm = c.caps.inside.perm;
  inh = c.caps.inside.inh;
  effective = c.caps.inside.effective;
  root = c.caps.inside.root;
}

written : (c : goal.After-from_vec) → c.from_vec.result ≡ clauses_text (printed (value c))
written c =
    let e = c.caps.inside.effective in
    let one = c.in_ok-append_clause.ensures
    ∙ ap (λ set. with_clause c.new-out.result.items set e (112 ∷ [])) c.less.ensures
    ∙ ap (λ x. with_clause x (less c.caps.inside.perm c.caps.inside.inh) e (112 ∷ []))
    c.new-out.ensures.items in
    let two = c.in_ok-append_clause-2.ensures
    ∙ ap (λ set. with_clause c.append_clause.new.out.items set e (105 ∷ 112 ∷ []))
    c.meet.ensures in
    let three = c.in_ok-append_clause-3.ensures
    ∙ ap (λ set. with_clause c.append_clause-2.new.out.items set e (105 ∷ [])) c.less-2.ensures in
    let all = three-more
    (value c) c.append_clause.new.out.items c.append_clause-2.new.out.items
    c.append_clause-3.new.out.items one two three in
    c.from_vec.ensures ∙ c.in_ok-append_none.ensures ∙ ap or_none all ∙ none-is (clauses (value c))

says : (c : goal.After-from_vec) → HasText (value c) → TextSays c.from_vec.result (value c)
says c has =
    let root = c.caps.invariant.initial (λ three. omega (arith, has.0, three)) in
    let perm = subst IsCaps c.bits.ensures.value c.bits.ensures.caps in
    let inh = subst IsCaps c.bits-2.ensures.value c.bits-2.ensures.caps in
    printed-says c.from_vec.result (value c) (written c) perm inh root has

pub returns : goal.returns
returns c = record {
  text = written c ∙ ap (λ a. clauses_text (printed a)) c.caps.view_is;
  read = λ has. subst (TextSays c.from_vec.result) c.caps.view_is
      (says c (subst HasText (sym c.caps.view_is) has));
}
