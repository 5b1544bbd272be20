use Rattle.std.proofs.Common.{rules, ◌≡◌, ◌∙◌, ◌<◌, ◌+◌, ◌*◌, ◌-◌, sym, ap, drop}
use Rattle.std.proofs.lemmas.List.{drop_more}
use Rattle.std.specs.Prelude.{slice_index}
use Rattle.ft_answers.specs.CommandLine.{number_in}
use Rattle.ft_words.proofs.Numbers.{number_tail, over_next}
use Rattle.ft_words.proofs.number.number_of.Goals as goal

pub returns-then-number-most : goal.returns-then-number-most
returns-then-number-most c =
    let bytes = c.args.text.now in
    let i = c.loop-byte.byte-index in
    let parts = drop_more bytes i 0 (search rules) in
    let same : number_tail c.args.most c.loop-byte.number (drop i bytes) ≡ number_in c.args.most bytes = search rules in
    let over : c.args.most < 10 * c.loop-byte.number + (slice_index bytes i - 48) = search rules in
    sym (over_next c.args.most c.loop-byte.number (slice_index bytes i) (drop (i + 1) bytes) over) ∙ ap (number_tail c.args.most c.loop-byte.number) (sym parts) ∙ same
