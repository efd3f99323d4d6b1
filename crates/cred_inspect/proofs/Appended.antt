-- The parts of the text of a record, appended one after another.
use Rattle.std.proofs.Common.{◌≡◌, ℕ, List, [], ◌++◌, append_assoc}

grouped : (version number target task perm p inh i eff e third digits end : List ℕ)
    → [] ++ (version ++ number) ++ (target ++ task) ++ perm ++ p ++ inh ++ i ++ eff ++ e ++ third ++ digits ++ end
    ≡ version ++ number ++ target ++ task ++ perm ++ p ++ inh ++ i ++ eff ++ e ++ third ++ digits ++ end
grouped version number target task perm p inh i eff e third digits end = simp append_assoc

module _ (version number target task perm p inh i eff e third digits end : List ℕ) where
  -- what is appended to an empty text in turn stands as the text has it
  pub appended : (none a b c d f text : List ℕ)
      → none ≡ [] → a ≡ none ++ (version ++ number) → b ≡ a ++ (target ++ task) → c ≡ b ++ perm ++ p ++ inh ++ i ++ eff ++ e
      → d ≡ c ++ third → f ≡ d ++ digits → text ≡ f ++ end
      → text ≡ version ++ number ++ target ++ task ++ perm ++ p ++ inh ++ i ++ eff ++ e ++ third ++ digits ++ end
  appended none a b c d f text begun first second sets fourth fifth last =
      rw (last, fifth, fourth, sets, second, first, begun)
      (grouped version number target task perm p inh i eff e third digits end)
