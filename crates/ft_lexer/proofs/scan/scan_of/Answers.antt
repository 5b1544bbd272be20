use Rattle.std.proofs.Common.{rules, ◌≡◌, ◌∙◌, ◌+◌, subst, ◌≤◌, arith, length, drop}
use Rattle.std.specs.Prelude.{slice_index}
use Rattle.std.proofs.lemmas.List.{get_or_default}
use Rattle.ft_grammar.specs.Fronts.{front}
use Rattle.ft_common.proofs.Lists.{range_from}
use Rattle.ft_lexer.proofs.Steps.{lex_step, part_at, width_parts, width_next}
use Rattle.ft_lexer.proofs.scan.scan_of.Goals as goal

pub width_of-requires : goal.width_of-requires
width_of-requires c =
    let cs = c.args.chars.now in
    omega (arith, part_at cs c.loop-i.i c.in_ok-kind.length, width_parts c.in_ok-kind.length (drop c.loop-i.i cs), c.loop-i.invariant.width, c.requires)

pub overflow_add-end : goal.overflow_add-end
overflow_add-end c =
    let cs = c.args.chars.now in
    omega (arith, part_at cs c.loop-i.i c.in_ok-kind.length, c.width_of.ensures, width_parts c.in_ok-kind.length (drop c.loop-i.i cs), c.loop-i.invariant.width, c.requires)

pub loop-i-preserved : goal.loop-i-preserved
loop-i-preserved c =
    let cs = c.args.chars.now in
    let i = c.loop-i.i in
    let n = c.in_ok-kind.length in
    let rest = range_from cs (i + 1) in
    let at : c.index-chars-i.result ≡ slice_index cs i = c.index-chars-i.is ∙ get_or_default cs i c.index-chars-i.result 0 (search rules) in
    let front_is = subst (λ x. front x (drop (i + 1) cs) ≡ (c.in_ok-kind.kind, n)) at
    (subst (λ r. front c.index-chars-i.result r ≡ (c.in_ok-kind.kind, n)) rest c.in_ok-kind.ensures.front) in
    let part = c.width_of.ensures ∙ part_at cs i n in record {
      within = search rules;
      width = width_next cs i n c.loop-i.at c.width_of.result c.loop-i.invariant.width part;
      tokens = lex_step c.loop-i.tokens.items c.push_token.new.tokens.items cs i c.loop-i.at c.width_of.result c.in_ok-kind.kind n (search rules)
          front_is c.in_ok-kind.ensures.some
          (subst (λ r. n ≤ length r + 1) rest c.in_ok-kind.ensures.within) part (search rules)
          ∙ c.loop-i.invariant.tokens;
    }
