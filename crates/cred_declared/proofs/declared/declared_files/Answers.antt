use Rattle.std.proofs.Common.{◌≡◌, ◌<◌, ◌+◌, suc, List, ◌∷◌, [], ◌++◌, length, take, refl, sym, ap, ◌∙◌, arith}
use Rattle.std.specs.Option.{option_map}
use Rattle.cred_record.specs.File.{File}
use Rattle.cred_model.specs.Script.{inodes_of}
use Rattle.cred_declared.proofs.Taken.{none_past, takes_file}
use Rattle.cred_declared.proofs.declared.declared_files.Goals.{in-Some+in_ok-add, in_default}
use Rattle.cred_declared.proofs.declared.declared_files.Goals as goal

pub loop-place-preserved : goal.loop-place-preserved
loop-place-preserved c =
    let script = c.args.script.now in
    let place = c.loop-place.place in
    let next : suc place ≡ place + 1 = omega arith in
    elim c.match-file.branch [
      | in-Some+in_ok-add w ↦
          let file = w.in-Some.file.now in
          rw w.files-is
          (w.in_ok-add.ensures.ok ∙ ap (λ (fs : List File). fs ++ file ∷ []) c.loop-place.invariant
          ∙ sym (takes_file script place file _ c.file.ensures (ap (option_map (λ info. info.now)) w.in-Some.is))
          ∙ ap (λ n. take n (inodes_of script)) next)
      | in_default w ↦
          absurd
          (none_past script place _ c.file.ensures (ap (option_map (λ info. info.now)) w.in_default.is)
          (omega (arith, c.loop-place-test.true, c.len-place-end.ensures.count, ap length c.files.ensures)))
    ]
