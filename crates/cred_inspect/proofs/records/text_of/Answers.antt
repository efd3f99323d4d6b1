use Rattle.std.proofs.Common.{◌≡◌, List, ℕ, codes, decimal, ap, ◌++◌, ◌∙◌}
use Rattle.hex.specs.Hex.{encode_lower}
use Rattle.cred_report.specs.Numbers.{set_text}
use Rattle.cred_inspect.specs.Records.{AreBytesAs3, record_text}
use Rattle.cred_inspect.proofs.Appended.{appended}
use Rattle.cred_inspect.proofs.records.text_of.Goals as goal

pub returns : goal.returns
returns c =
    let d = c.args.caps in
    let third : List ℕ = c.in_ok-third.third in
    let items : c.items.result.now ≡ third = c.items.ensures in
    let as_3 : AreBytesAs3 d third = record { spelled = c.in_ok-third.ensures.spells; canonical = c.in_ok-third.ensures.canonical; each = rw items at c.append_hex.ensures.bytes } in
    let version : c.from.result ≡ d.version = c.from.ensures in
    let same : c.append_word-2.new.out.items ≡ record_text d third =
    appended (codes "version ") (decimal d.version) (codes " target ") (decimal d.target) (codes " perm") (set_text d.perm) (codes " inh") (set_text d.inh)
    (codes " eff") (set_text d.eff) (codes " v3 ") (encode_lower third) (codes "\n")
    c.new-text.result.items c.append_number.new.out.items c.append_number-2.new.out.items c.append_sets.new.text.items c.append_word.new.out.items
    c.append_hex.new.text.items c.append_word-2.new.out.items c.new-text.ensures.items
    (c.in_ok-append_number.ensures ∙ ap (λ (n : ℕ). c.new-text.result.items ++ (codes "version " ++ decimal n)) version) c.in_ok-append_number-2.ensures
    c.in_ok-append_sets.ensures c.in_ok-append_word.ensures
    (c.in_ok-append_hex.ensures.text ∙ ap (λ (bytes : List ℕ). c.append_word.new.out.items ++ encode_lower bytes) items) c.in_ok-append_word-2.ensures in
    (third, as_3, same)
