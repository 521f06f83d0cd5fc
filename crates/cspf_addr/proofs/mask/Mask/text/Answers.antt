use Rattle.std.proofs.Common.{◌≡◌, ◌<◌, ◌^◌, IfOk, Some, ap, ◌∙◌, arith}
use Rattle.std.proofs.lemmas.Fmt.{hex_byte}
use Rattle.std.proofs.lemmas.Result.{IfOk-weaker}
use Rattle.std.specs.String.{string_bytes}
use Rattle.cspf_addr.specs.MaskText.{mask_of, mask_text}
use Rattle.cspf_addr.proofs.MaskLemmas.{mask_of-mask_text}
use Rattle.cspf_addr.proofs.mask.Mask.text.Goals as goal

pub returns-clause-read : goal.returns-clause-read
unfolding mask_text
returns-clause-read c =
    let small : c.args.self < 2 ^ 32 = omega (arith, c.self.view_is) in
    let written : IfOk c.format.result (λ text. string_bytes text ≡ mask_text c.args.self) = grind (arith, hex_byte) in
    IfOk-weaker c.format.result (λ text. string_bytes text ≡ mask_text c.args.self)
    (λ text. mask_of (string_bytes text) ≡ Some c.args.self)
    (λ text same. ap mask_of same ∙ mask_of-mask_text c.args.self small) written
