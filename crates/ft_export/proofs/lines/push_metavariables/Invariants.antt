use Rattle.std.proofs.Common.{◌≡◌, ◌++◌, take}
use Rattle.ft_items.specs.Texts.{EachNumberFits}
use Rattle.ft_export.specs.Parts.{parts_text, numbers}
use Rattle.ft_export.proofs.lines.push_metavariables.Given as goal

abbrev pub invariant-loop-m : goal.invariant-loop-m
invariant-loop-m l = record {
  out : l.out ≡ l.fn.out ++ parts_text (numbers (take l.m-index l.items));
  fits : EachNumberFits (take l.m-index l.items);
}
