-- A file or a namespace more leaves those that were declared before it.
use Rattle.std.proofs.Common.{◌≡◌, ℕ, ◌==◌, ◌+◌, ◌<◌, Bool, true, false, cond, List, [], ◌∷◌, ◌++◌, length, IsSome, Option, None, Some, refl, length-append}
use Rattle.std.proofs.Common.{arith}
use Rattle.std.specs.Option.{option_map, option_or}
use Rattle.std.proofs.lemmas.List.Elements.{All-weaker}
use Rattle.std.proofs.lemmas.List.Folds.{find-append}
use Rattle.cred_model.specs.Script.{Line, Namespace, INITIAL, chain_in}
use Rattle.cred_model.specs.Named.{files, namespaces}
use Rattle.cred_names.specs.Owners.{Lanes}
use Rattle.cred_script.specs.Sound.{IsSoundLine}
use Rattle.cred_grammar.specs.Sound.{AreLinesRead}

there : (b : Bool) (found more : Option Namespace) → IsSome (cond b (Some INITIAL) (option_map (λ ns. ns.chain) found))
    → IsSome (cond b (Some INITIAL) (option_map (λ ns. ns.chain) (option_or found more)))
there true found more some = refl
there false (Some ns) more some = refl
there false None more some = absurd (cc)

still_there : (declared : List Namespace) (ns : Namespace) (number : ℕ) → IsSome (chain_in declared number) → IsSome (chain_in (declared ++ ns ∷ []) number)
still_there declared ns number some = rw (find-append (λ ns. ns.number == number) declared (ns ∷ [])) (there (number == 0) _ _ some)

line_sound : (count : ℕ) (declared : List Namespace) (ns : Namespace) (line : Line) → IsSoundLine count declared line
    → IsSoundLine count (declared ++ ns ∷ []) line
line_sound count declared ns line sound = record {
  lane = sound.lane;
  labels = sound.labels;
  content = record {
    files = sound.content.files;
    namespaces =
        All-weaker (λ number. IsSome (chain_in declared number)) (λ number. IsSome (chain_in (declared ++ ns ∷ []) number)) (still_there declared ns)
        (namespaces line.content)
        sound.content.namespaces;
    modes = sound.content.modes;
  };
  fixed = sound.fixed;
}

-- what was read stays sound with a namespace more
pub still_sound : (count : ℕ) (declared more : List Namespace) (ns : Namespace) (lanes : Lanes) (lines : List Line) → more ≡ declared ++ ns ∷ []
    → AreLinesRead count declared lanes lines → AreLinesRead count more lanes lines
still_sound count declared more ns lanes lines more_is old = rw more_is (record {
  few = old.few;
  each = All-weaker (IsSoundLine count declared) (IsSoundLine count (declared ++ ns ∷ [])) (line_sound count declared ns) lines old.each;
  lane = old.lane;
  setup = old.setup;
  first = old.first;
  owned = old.owned;
})

file_sound : (count : ℕ) (declared : List Namespace) (line : Line) → IsSoundLine count declared line → IsSoundLine (count + 1) declared line
file_sound count declared line sound = record {
  lane = sound.lane;
  labels = sound.labels;
  content = record {
    files = All-weaker (λ file. file < count) (λ file. file < count + 1) (λ file among. omega arith) (files line.content) sound.content.files;
    namespaces = sound.content.namespaces;
    modes = sound.content.modes;
  };
  fixed = sound.fixed;
}

-- and with a file more
pub sound_with_file : {A : Type 0} (files more : List A) (file : A) (declared : List Namespace) (lanes : Lanes) (lines : List Line) → more ≡ files ++ file ∷ []
    → AreLinesRead (length files) declared lanes lines → AreLinesRead (length more) declared lanes lines
sound_with_file files more file declared lanes lines more_is old =
    let count : length more ≡ length files + 1 = rw (more_is, length-append files (file ∷ [])) refl in
    rw count (record {
      few = old.few;
      each = All-weaker (IsSoundLine (length files) declared) (IsSoundLine (length files + 1) declared) (file_sound (length files) declared) lines old.each;
      lane = old.lane;
      setup = old.setup;
      first = old.first;
      owned = old.owned;
    })
