use Rattle.std.proofs.Common.{◌≡◌, ◌++◌, drop, take}
use Rattle.std.specs.Prelude.{encode_utf8_all}
use Rattle.ft_base.proofs.text.Text.push_chars.Given as goal

abbrev pub invariant-loop-c : goal.invariant-loop-c
invariant-loop-c l = record {
  done : l.self-inside.bytes.items ++ encode_utf8_all (drop l.c-index l.chars) ≡ l.fn.self ++ encode_utf8_all l.chars;
  kept : take l.length l.self-inside.bytes.items ≡ l.fn.self;
}
