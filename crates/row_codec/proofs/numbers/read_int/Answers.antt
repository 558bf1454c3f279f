use Rattle.std.proofs.Common.{sym, ap, ◌∙◌}
use Rattle.std.proofs.lemmas.Result.{err_from_is_err_and}
use Rattle.row_codec.specs.Fields.{natural_of, in_range, signed}
use Rattle.row_codec.specs.Numbers.{capped_size}
use Rattle.row_codec.proofs.Signs.{number_ok, number_err}
use Rattle.row_codec.proofs.numbers.read_int.Goals as goal

pub returns-in_err-size : goal.returns-in_err-size
returns-in_err-size c =
    let p = err_from_is_err_and c.from_residual.result c.from_residual.ensures.1 in
    let fault =
    c.in_err-size.ensures ∙ ap (λ text. capped_size (natural_of text)) c.split_sign-is_negative.ensures.rest in
    rw (p.1, p.2) (sym (number_err natural_of c.args.text.now c.in_err-size.field-0.0 fault))

pub returns : goal.returns
returns c =
    let size =
    c.in_ok-size.ensures ∙ ap (λ text. capped_size (natural_of text)) c.split_sign-is_negative.ensures.rest in
    c.in_range.ensures ∙ ap (λ b. in_range (signed b c.in_ok-size.size)) c.split_sign-is_negative.ensures.negative
    ∙ sym (number_ok natural_of c.args.text.now c.in_ok-size.size size)
