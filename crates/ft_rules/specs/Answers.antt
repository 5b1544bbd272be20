-- What the calls that draft a rule answer.
use Rattle.std.specs.Prelude.{ℕ, ◌≡◌, Option, Some, None, List, [], ◌∷◌, ◌++◌, Result, Ok, Err, ⊤}
use Rattle.ft_items.specs.Item.{Name, Item, metavariable, rule}
use Rattle.ft_items.specs.Store.{Assertion, Declared, Declarations, declared_rule, declared_by}
use Rattle.ft_theory.specs.Rules.{Rule}
use Rattle.ft_assume.specs.Atoms.{atom_of}
use Rattle.ft_reference.specs.Declare as reference
use Rattle.ft_kernel.specs.State.{State, with_item, entry_at}
use Rattle.ft_rules.specs.Drafts.{Drafted, met_of, draft_in}
use Rattle.ft_rules.specs.declared.fault.RuleFault.{RuleFault}
use Rattle.ft_rules.specs.declared.fault.RuleFault.TheVariants.{Duplicate, TooMany, OpenPremise, OpenConclusion, Memory}

-- the reference refuses with this fault; of memory it says nothing
abbrev pub Refuses : {A : Type 0} → Result A reference.RuleFault → RuleFault → Type 0
Refuses o Duplicate = o ≡ Err reference.Duplicate
Refuses o TooMany = o ≡ Err reference.TooMany
Refuses o (OpenPremise i a) = o ≡ Err (reference.OpenPremise i (atom_of a))
Refuses o (OpenConclusion a) = o ≡ Err (reference.OpenConclusion (atom_of a))
Refuses o Memory = Unit {0}

-- a draft of this name is begun as the reference begins it, or refused as there
abbrev pub Begins : List Item → Name → Result Drafted RuleFault → Type 0
Begins items n (Ok d) = (reference.begin (declared_by items) n).answer ≡ Ok (draft_in items d)
Begins items n (Err f) = Refuses (reference.begin (declared_by items) n).answer f

-- what the reference does for a premise of this name and this boundary
abbrev pub premise_in : List Item → Drafted → Name → Assertion
    → reference.Outcome (Declarations × reference.Draft) (ℕ × Declared) reference.RuleFault
premise_in items d n a = reference.premise (declared_by items) (draft_in items d) n a

-- The draft d gets a premise of this name with the boundary a, the entry b: a metavariable of the list after, as the reference
-- declares it, and the draft that it leaves. After a refusal, and where memory was refused, draft and list are as before.
abbrev pub PremisesWith : Assertion → State → Drafted → Name → ℕ
    → Result ℕ RuleFault → State → Drafted → Type 0
PremisesWith a s d n b (Ok m) t e =
    ((premise_in s.items d n a).answer ≡ Ok (met_of t.items m))
    × ((premise_in s.items d n a).after ≡ (declared_by t.items, draft_in t.items e))
    × (t ≡ with_item s (metavariable n b))
    × (e ≡ record { name = d.name; premises = d.premises ++ m ∷ [] })
PremisesWith a s d n b (Err f) t e =
    Refuses (premise_in s.items d n a).answer f × (t ≡ s) × (e ≡ d)

-- so it is for the boundary that the entry b has
abbrev pub Premises : State → Drafted → Name → ℕ → Result ℕ RuleFault → State → Drafted → Type 0
Premises s d n b r t e = (a : Assertion) × (entry_at s b ≡ Some a) × PremisesWith a s d n b r t e

-- what the reference does for this conclusion
abbrev pub finish_in : List Item → Drafted → Assertion
    → reference.Outcome Declarations (ℕ × Rule) reference.RuleFault
finish_in items d a = reference.finish (declared_by items) (draft_in items d) a

-- The rule of the draft d with the conclusion a, the entry c, is declared as the reference declares it. After a refusal, and
-- where memory was refused, the list is as before.
abbrev pub FinishesWith : Assertion → State → Drafted → ℕ → Result ℕ RuleFault → State → Type 0
FinishesWith a s d c (Ok r) t =
    ((finish_in s.items d a).answer ≡ Ok (r, declared_rule (draft_in s.items d).premises a))
    × ((finish_in s.items d a).after ≡ declared_by t.items)
    × (t ≡ with_item s (rule d.name d.premises c))
FinishesWith a s d c (Err f) t = Refuses (finish_in s.items d a).answer f × (t ≡ s)

-- so it is for the conclusion that the entry c has
abbrev pub Finishes : State → Drafted → ℕ → Result ℕ RuleFault → State → Type 0
Finishes s d c r t = (a : Assertion) × (entry_at s c ≡ Some a) × FinishesWith a s d c r t

-- whether a rule of a name can be declared: the first fault of the reference, where there is one
abbrev pub IsNameFault : Option reference.RuleFault → Result ⊤ RuleFault → Type 0
IsNameFault o (Ok x) = o ≡ None
IsNameFault o (Err Duplicate) = o ≡ Some reference.Duplicate
IsNameFault o (Err TooMany) = o ≡ Some reference.TooMany
IsNameFault o (Err (OpenPremise i a)) = ⊥
IsNameFault o (Err (OpenConclusion a)) = ⊥
IsNameFault o (Err Memory) = ⊥
