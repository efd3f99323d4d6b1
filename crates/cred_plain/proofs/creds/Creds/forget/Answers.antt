use Rattle.std.proofs.Common.{◌≡◌, ℕ, Bool, sym, ◌∙◌, rules, tests}
use Rattle.std.specs.List.{filter}
use Rattle.std.proofs.lemmas.Fn.{filter_same}
use Rattle.cred_plain.specs.Creds.{StoredCred}
use Rattle.cred_plain.specs.References.{refer_to}
use Rattle.cred_plain.proofs.Sealed.{gone-sealed, sealed-kept, slots-sealed}
use Rattle.cred_plain.proofs.Rising.{stores_less}
use Rattle.cred_plain.proofs.creds.Creds.forget.Goals as goal

pub invariant_of-self : goal.invariant_of-self
invariant_of-self c =
    let r = c.self.inside in
    let keep : ℕ → Bool = refer_to c.args.references.now in
    let left : c.retain.new.self.items ≡ filter (λ (s : StoredCred). keep s.number) r.stored.items
    = filter_same _ (λ (s : StoredCred). keep s.number) _ (λ x b f' k. search (rules, tests)) _ _ c.retain.ensures.filtered in
    record {
      in_order = rw left (stores_less (λ (s : StoredCred). keep s.number) r.stored.items _ c.self.invariant.in_order);
      stands = c.self.invariant.stands;
    }

pub returns-clause-stored : goal.returns-clause-stored
returns-clause-stored c =
    let r = c.self.inside in
    let keep : ℕ → Bool = refer_to c.args.references.now in
    let left : c.retain.new.self.items ≡ filter (λ (s : StoredCred). keep s.number) r.stored.items
    = filter_same _ (λ (s : StoredCred). keep s.number) _ (λ x b f' k. search (rules, tests)) _ _ c.retain.ensures.filtered in
    rw (← c.self.view_is) left

pub returns-clause-slots : goal.returns-clause-slots
returns-clause-slots c =
    let r = c.self.inside in
    rw (← c.self.view_is)
    (slots-sealed r.forgotten c.retain.new.self.items 0 r.slots.items ∙ sym (slots-sealed r.forgotten r.stored.items 0 r.slots.items))

pub returns-clause-kept : goal.returns-clause-kept
returns-clause-kept c =
    let r = c.self.inside in
    let keep : ℕ → Bool = refer_to c.args.references.now in
    let left : c.retain.new.self.items ≡ filter (λ (s : StoredCred). keep s.number) r.stored.items
    = filter_same _ (λ (s : StoredCred). keep s.number) _ (λ x b f' k. search (rules, tests)) _ _ c.retain.ensures.filtered in
    rw (← c.self.view_is, left)
    (λ n referred. sealed-kept r.forgotten keep r.stored.items r.slots.items n referred)

pub returns-clause-gone : goal.returns-clause-gone
returns-clause-gone c =
    let r = c.self.inside in
    let keep : ℕ → Bool = refer_to c.args.references.now in
    let left : c.retain.new.self.items ≡ filter (λ (s : StoredCred). keep s.number) r.stored.items
    = filter_same _ (λ (s : StoredCred). keep s.number) _ (λ x b f' k. search (rules, tests)) _ _ c.retain.ensures.filtered in
    rw left
    (λ n unreferred. gone-sealed r.forgotten keep r.stored.items r.slots.items n unreferred c.self.invariant.stands)
