use Rattle.std.proofs.Common.{◌≡◌, ◌∙◌, sym, ap, refl, ℕ, suc, ◌+◌, get_or, arith}
use Rattle.ft_print.proofs.Positions.{line_feed, character, no_character, one_line_more, no_line_more}
use Rattle.ft_print.proofs.places.line_col.Goals.{then-b-eq10, else-b-eq10+then-begins, else-b-eq10+else-begins}
use Rattle.ft_print.proofs.places.line_col.Goals as goal

more : (n : ℕ) → suc n + 1 ≡ suc (n + 1)
more n = omega arith

further : (n : ℕ) → suc n + 1 ≡ suc (suc n)
further n = omega arith

pub loop-b-preserved : goal.loop-b-preserved
loop-b-preserved c =
    let s = c.front-b-items.result.now in
    let i : ℕ = c.loop-b.b-index in
    let b : ℕ = get_or s i 0 in
    elim c.if-b-eq10.branch [
      | then-b-eq10 w ↦ record {
        items = c.loop-b.invariant.items;
        line = w.line-is ∙ ap (λ n. n + 1) c.loop-b.invariant.line ∙ more _ ∙ ap suc (sym (one_line_more s i b c.loop-b-test.true refl w.if-b-eq10.true));
        column = w.column-is ∙ ap suc (sym (line_feed s i b c.loop-b-test.true refl w.if-b-eq10.true));
      }
      | else-b-eq10+then-begins w ↦ record {
        items = c.loop-b.invariant.items;
        line = w.line-is ∙ c.loop-b.invariant.line ∙ ap suc (sym (no_line_more s i b c.loop-b-test.true refl w.if-b-eq10.false));
        column = w.column-is ∙ ap (λ n. n + 1) c.loop-b.invariant.column ∙ further _ ∙ ap suc (sym (character s i b c.loop-b-test.true refl w.if-b-eq10.false (sym w.begins.ensures ∙ w.if-begins.true)));
      }
      | else-b-eq10+else-begins w ↦ record {
        items = c.loop-b.invariant.items;
        line = w.line-is ∙ c.loop-b.invariant.line ∙ ap suc (sym (no_line_more s i b c.loop-b-test.true refl w.if-b-eq10.false));
        column = w.column-is ∙ c.loop-b.invariant.column ∙ ap suc (sym (no_character s i b c.loop-b-test.true refl w.if-b-eq10.false (sym w.begins.ensures ∙ w.if-begins.false)));
      }
    ]
