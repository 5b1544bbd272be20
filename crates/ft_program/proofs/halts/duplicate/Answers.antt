use Rattle.std.proofs.Common.{◌≡◌, ◌∙◌, ap, sym}
use Rattle.ft_items.specs.Store.{Declarations}
use Rattle.ft_meaning.specs.Trees.{command_of}
use Rattle.ft_meaning.specs.Values.{OfRule}
use Rattle.ft_meaning.specs.Faults.{fault_text}
use Rattle.ft_meaning.specs.Transcript.{rule_name}
use Rattle.ft_reference.specs.Declare.{Duplicate}
use Rattle.ft_program.proofs.Halting.{ok_map, rule_named}
use Rattle.ft_program.proofs.halts.duplicate.Goals as goal

pub returns-in-Rule : goal.returns-in-Rule
returns-in-Rule c =
    let named = ap (λ x. rule_name (command_of x)) c.in-Rule.is ∙ rule_named c.in-Rule.field-0 c.in-Rule.name c.in-Rule.field-2 c.in-Rule.field-3 in
    ok_map c.duplicate_rule_text.result (λ t. (W : Declarations) → t ≡ fault_text W c.in-Rule.name.name (OfRule Duplicate))
    (λ t. (W : Declarations) → t ≡ fault_text W (rule_name (command_of c.args.c.now)) (OfRule Duplicate))
    (λ t h W. h W ∙ ap (λ n. fault_text W n (OfRule Duplicate)) (sym named)) c.duplicate_rule_text.ensures
