use Rattle.std.proofs.Common.{◌≡◌, ap}
use Rattle.ft_items.specs.Item.{Name}
use Rattle.ft_items.specs.Store.{Declarations, declared_by}
use Rattle.ft_assume.specs.Atoms.{atom_of}
use Rattle.ft_meaning.specs.Trees.{command_of}
use Rattle.ft_meaning.specs.Values.{OfRule}
use Rattle.ft_meaning.specs.Faults.{fault_text}
use Rattle.ft_meaning.specs.Transcript.{rule_name}
use Rattle.ft_reference.specs.Declare as reference
use Rattle.ft_drafting.specs.Drafting.{reason}
use Rattle.ft_program.specs.Running.{IsRuleText}
use Rattle.ft_program.proofs.Halting.{ok_map, rule_text_is}
use Rattle.ft_program.proofs.halts.rule_text.Goals as goal

pub returns-in-Duplicate : goal.returns-in-Duplicate
returns-in-Duplicate c =
    let W = declared_by c.args.k.now.items in
    let n = rule_name (command_of c.args.c.now) in
    ok_map c.duplicate.result (λ t. (W : Declarations) → t ≡ fault_text W n (OfRule reference.Duplicate)) (λ t. IsRuleText W n c.args.fault.now t)
    (λ t h. rule_text_is W n c.args.fault.now t (reference.Duplicate) (ap reason c.in-Duplicate.is) (h W)) c.duplicate.ensures

pub returns-in-TooMany : goal.returns-in-TooMany
returns-in-TooMany c =
    let W = declared_by c.args.k.now.items in
    let n = rule_name (command_of c.args.c.now) in
    ok_map c.too_many_rules_text.result (λ t. (W : Declarations) (n : Name) → t ≡ fault_text W n (OfRule reference.TooMany)) (λ t. IsRuleText W n c.args.fault.now t)
    (λ t h. rule_text_is W n c.args.fault.now t (reference.TooMany) (ap reason c.in-TooMany.is) (h W n)) c.too_many_rules_text.ensures

pub returns-in-OpenPremise : goal.returns-in-OpenPremise
returns-in-OpenPremise c =
    let W = declared_by c.args.k.now.items in
    let n = rule_name (command_of c.args.c.now) in
    ok_map c.open_premise_text.result (λ t. (n : Name) → t ≡ fault_text W n (OfRule (reference.OpenPremise c.in-OpenPremise.premise (atom_of c.in-OpenPremise.atom)))) (λ t. IsRuleText W n c.args.fault.now t)
    (λ t h. rule_text_is W n c.args.fault.now t (reference.OpenPremise c.in-OpenPremise.premise (atom_of c.in-OpenPremise.atom)) (ap reason c.in-OpenPremise.is) (h n)) c.open_premise_text.ensures

pub returns-in-OpenConclusion : goal.returns-in-OpenConclusion
returns-in-OpenConclusion c =
    let W = declared_by c.args.k.now.items in
    let n = rule_name (command_of c.args.c.now) in
    ok_map c.open_conclusion_text.result (λ t. (n : Name) → t ≡ fault_text W n (OfRule (reference.OpenConclusion (atom_of c.in-OpenConclusion.atom)))) (λ t. IsRuleText W n c.args.fault.now t)
    (λ t h. rule_text_is W n c.args.fault.now t (reference.OpenConclusion (atom_of c.in-OpenConclusion.atom)) (ap reason c.in-OpenConclusion.is) (h n)) c.open_conclusion_text.ensures
