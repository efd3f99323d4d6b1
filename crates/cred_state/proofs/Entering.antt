-- Events that were decided are entered.
use Rattle.std.proofs.Common.{if◌then◌else◌, ◌≡◌, ◌<◌, ℕ, Bool, true, false, List, [], ◌∷◌, ◌++◌, length, nat_lt, Option, None, Some, Result, Ok, Err, IfOk}
use Rattle.std.proofs.Common.{OnOk, count_by, is_some, refl, sym, ap, ◌∙◌, subst, arith}
use Rattle.std.specs.Option.{IfSome}
use Rattle.std.proofs.lemmas.Bool.Decides.{nat_tests}
use Rattle.cred_ids.specs.Limits.{OPEN_FILES}
use Rattle.cred_record.specs.Credential.{Credential}
use Rattle.cred_record.specs.File.{File}
use Rattle.cred_record.specs.declared.want.Want.{Want}
use Rattle.cred_rules.specs.Access.{may_signal}
use Rattle.cred_event.specs.declared.answer.Answer.{Answer}
use Rattle.cred_event.specs.declared.answer.Answer.TheVariants.{Done, Eacces, Exists, NoHold, TooMany}
use Rattle.cred_event.specs.declared.answer.Counted.TheVariants as counted
use Rattle.cred_event.specs.declared.answer.Named.TheVariants as named
use Rattle.cred_event.specs.declared.event.Change.{Change}
use Rattle.cred_event.specs.declared.event.Change.TheVariants as change
use Rattle.cred_model.specs.Answers.{checked}
use Rattle.cred_model.specs.Change.{Made, by_change}
use Rattle.cred_model.specs.Moves.{altered}
use Rattle.cred_model.specs.Named.{change_files}
use Rattle.cred_model.specs.Script.{Script, chain_of}
use Rattle.cred_model.specs.State.{State, Prepared, Numbered, held_by, info_of, numbered, open_of, prepared_of}
use Rattle.cred_model.specs.LabelEvents.{by_alter}
use Rattle.cred_model.specs.FileEvents.{by_open}
use Rattle.cred_model.specs.Step.{outcome}
use Rattle.cred_model.proofs.Places.{if_some}
use Rattle.cred_hold.specs.Tokens.{Loan}
use Rattle.cred_tables.specs.Out.{AreSameTokens}
use Rattle.cred_tables.proofs.Returned.{count_one, taken_count}
use Rattle.cred_state.specs.TokensOut.{AreTaken, IsBase, IsChainOf, IsMadeOf}

-- ---- a file

few_files : (n : ℕ) → n < OPEN_FILES → nat_lt n OPEN_FILES ≡ true
few_files n few = grind (arith, nat_tests)

module _ (s : State) (label file : ℕ) (want : Want) (fd : ℕ) where
  pub open_none : held_by s label ≡ None → outcome s (by_open s label file want fd) ≡ (NoHold label, s)
  open_none none = rw none refl

  module _ (held : Numbered) (at : held_by s label ≡ Some held) where
    pub open_exists : is_some (open_of s fd) ≡ true → outcome s (by_open s label file want fd) ≡ (Exists named.File fd, s)
    open_exists there = rw (at, there) refl

    module _ (may : Bool) (right : IfSome (held_by s label) (λ held. checked held.cred (info_of s.inodes (file ∷ [])) want ≡ (if may then Done else Eacces)))
        (new : open_of s fd ≡ None) where
      checks : checked held.cred (info_of s.inodes (file ∷ [])) want ≡ (if may then Done else Eacces)
      checks =
          if_some (λ (h : Numbered). checked h.cred (info_of s.inodes (file ∷ [])) want ≡ (if may then Done else Eacces)) (held_by s label) held at right

      pub open_refused : may ≡ false → outcome s (by_open s label file want fd) ≡ (Eacces, s)
      open_refused is =
          let refused : checked held.cred (info_of s.inodes (file ∷ [])) want ≡ Eacces = checks ∙ ap (λ (b : Bool). if b then Done else Eacces) is in
          rw (at, new, refused) refl

      module _ (allowed : may ≡ true) where
        may_be : checked held.cred (info_of s.inodes (file ∷ [])) want ≡ Done
        may_be = checks ∙ ap (λ (b : Bool). if b then Done else Eacces) allowed

        pub open_full : nat_lt (length s.files) OPEN_FILES ≡ false → outcome s (by_open s label file want fd) ≡ (TooMany counted.Files, s)
        open_full many = rw (at, new, may_be, many) refl

        pub open_done : length s.files < OPEN_FILES
            → outcome s (by_open s label file want fd)
            ≡ (Done, record s { files = s.files ++ record { fd = fd; opener = held.number; file = file } ∷ [] })
        open_done few = rw (at, new, may_be, few_files (length s.files) few) refl

-- ---- a change

-- the root ids are those that the script has of the base's namespace, where they matter
chain_right : (script : Script) (ch : Change) (ns : ℕ) (chain : List ℕ) (file : Option File) (c : Credential)
    → IsChainOf script ch ns chain → by_change file chain c ch ≡ by_change file (chain_of script ns) c ch
chain_right script (change.SetFs kind id) ns chain file c is = refl
chain_right script (change.Adjust call) ns chain file c is = refl
chain_right script (change.Exec place) ns chain file c is = ap (λ (ids : List ℕ). by_change file ids c (change.Exec place)) is
chain_right script change.Access ns chain file c is = refl

module _ (script : Script) (s : State) (label : ℕ) (ch : Change) (p : Prepared) (base : Numbered) (prepared : prepared_of s label ≡ Some p)
    (sealed : numbered s.creds p.base ≡ Some base) (own : Credential) (of : IsBase s label own) (chain : List ℕ) where
  base_is : base.cred ≡ own
  base_is =
      if_some (λ (b : Numbered). b.cred ≡ own) (numbered s.creds p.base) base sealed
      (if_some (λ (q : Prepared). IfSome (numbered s.creds q.base) (λ b. b.cred ≡ own)) (prepared_of s label) p prepared of)

  by_same : IsChainOf script ch own.ns chain
      → by_change (info_of s.inodes (change_files ch)) (chain_of script base.cred.ns) base.cred ch ≡ by_change (info_of s.inodes (change_files ch)) chain own ch
  by_same is =
      ap (λ (c : Credential). by_change (info_of s.inodes (change_files ch)) (chain_of script c.ns) c ch) base_is
      ∙ sym (chain_right script ch own.ns chain (info_of s.inodes (change_files ch)) own is)

  pub alter_refused : (answer : Answer) → IsMadeOf script s.inodes chain own ch (Err answer) → outcome s (by_alter script s label ch) ≡ (answer, s)
  alter_refused answer (is, refused) = rw (prepared, sealed, by_same is ∙ sym refused) refl

  pub alter_made : (made : Made) → IsMadeOf script s.inodes chain own ch (Ok made)
      → outcome s (by_alter script s label ch) ≡ (made.answer, altered s label (record { change = ch; cred = made.cred; gains = made.gains }))
  alter_made made (is, done) = rw (prepared, sealed, by_same is ∙ sym done) refl

-- ---- what the holds have

-- a decision on the two credentials that labels hold, where they hold any
pub both_right : (a b : Option Numbered) (x y : Credential) (may : Bool) → IfSome a (λ held. held.cred ≡ x) → IfSome b (λ held. held.cred ≡ y)
    → may ≡ may_signal x y false → IfSome a (λ own. IfSome b (λ other. may ≡ may_signal own.cred other.cred false))
both_right None b x y may first second is = tt
both_right (Some a) None x y may first second is = tt
both_right (Some a) (Some b) x y may first second is = is ∙ (λ k. may_signal (sym first k) (sym second k) false)

-- what is told of the credential that a label holds
pub one_right : {X : Type 0} (f : Credential → X) (told : X) (o : Option Numbered) (x : Credential) → IfSome o (λ held. held.cred ≡ x) → told ≡ f x
    → IfSome o (λ held. told ≡ f held.cred)
one_right f told None x own is = tt
one_right f told (Some c) x own is = is ∙ sym (ap f own)

-- what is true of the credential that a label holds, if it holds any
pub held_right : {X : Type 0} (P : X → Credential → Type 0) (o : Option X) (held : Option Numbered) (c : Credential)
    → IfSome o (λ x. P x c) → IfSome held (λ h. h.cred ≡ c) → IfSome o (λ x. IfSome held (λ h. P x h.cred))
held_right P None held c right own = tt
held_right P (Some x) None c right own = tt
held_right P (Some x) (Some h) c right own = subst (P x) (sym own) right

pub with_ok : {A E : Type 0} (r : Result A E) (T : Type 0) (P Q : A → Type 0) → OnOk r T → IfOk r P → (T → (x : A) → P x → Q x) → IfOk r Q
with_ok (Ok x) T P Q on is f = f on x is
with_ok (Err e) T P Q on is f = tt

-- ---- what came back counts as what was lent

pub taken_same : (es old new : List Loan) → AreTaken es old new → AreSameTokens old (es ++ new)
taken_same [] old new is test = ap (λ (xs : List Loan). count_by test xs) (sym is)
taken_same (e ∷ es) old new (mid, taken, rest) test =
    let one = taken_count test old e mid taken in
    let less = taken_same es mid new rest test in
    let first = count_one test e mid in
    let all = count_one test e (es ++ new) in
    omega (arith, one, less, first, all)
