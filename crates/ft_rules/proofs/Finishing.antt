-- The rule of a draft.
use Rattle.std.proofs.Common.{◌≡◌, ◌∙◌, ℕ, ◌<◌, ◌+◌, Option, Some, None, List, [], ◌∷◌, ◌++◌, length, map, refl, sym, ap, ap₂, subst, arith, length-append}
use Rattle.std.specs.Prelude.{option_map, Ok, Err}
use Rattle.ft_theory.specs.Derivability.{FinitaryUpTo}
use Rattle.ft_theory.specs.Rules.{Rule}
use Rattle.ft_items.specs.Sets.{Atom, met}
use Rattle.ft_items.specs.Item.{Name, Item, variable, metavariable, rule, entry, shown}
use Rattle.ft_items.specs.Store.{Assertion, Declarations, nth, entry_named, declared_rule, add_rule, empty_store, store_of, declared_by, rules_in}
use Rattle.ft_items.specs.Good.{Good, Allowed}
use Rattle.ft_items.proofs.Lists.{entries_all}
use Rattle.ft_sound.proofs.Theorems.{rules_finitary}
use Rattle.ft_assume.specs.Atoms.{atom_of}
use Rattle.ft_assume.specs.declared.atom.Atom.{Atom as AtomValue}
use Rattle.ft_reference.specs.Declare as reference
use Rattle.ft_reference.specs.Declare.{outcome, first_of, name_fault, first_outside}
use Rattle.ft_nucleus_laws.specs.Laws.{drafted}
use Rattle.ft_nucleus_laws.proofs.Declaring.{finishes_allowed, finished_is_finitary}
use Rattle.ft_kernel.specs.State.{State, with_item, entry_at, set_at}
use Rattle.ft_rules.specs.Drafts.{Drafted, mets_of, draft_in, IsDraftOver, IsPlainBoundaryOf, RestsOnOwn}
use Rattle.ft_rules.specs.Answers.{Finishes, IsNameFault}
use Rattle.ft_rules.specs.declared.fault.RuleFault.{RuleFault}
use Rattle.ft_rules.specs.declared.fault.RuleFault.TheVariants.{Duplicate, TooMany, OpenPremise, OpenConclusion, Memory}
use Rattle.ft_rules.proofs.Mets.{numbers_are}
use Rattle.ft_rules.proofs.Names.{rules_many}
use Rattle.ft_rules.proofs.Premises.{outside_in, outside_is}

-- what the reference does, by the two refusals
abbrev finished : State → Drafted → Assertion → Option reference.RuleFault → Option Atom → reference.Outcome Declarations (ℕ × Rule) reference.RuleFault
finished s d a o x =
    outcome (first_of o (option_map reference.OpenConclusion x)) (declared_by s.items) (add_rule (declared_by s.items) d.name (Some (mets_of s.items d.premises)) (Some a))
    (reference.next_rule (declared_by s.items) (mets_of s.items d.premises) a)

-- a fault of the name
pub finish_name : (s t : State) (d : Drafted) (c : ℕ) (f : RuleFault) → IsPlainBoundaryOf s c → IsNameFault (name_fault (declared_by s.items) d.name) (Err f) → t ≡ s → Finishes s d c (Err f) t
finish_name s t d c Duplicate p h q = (p.0, p.1, (ap (λ o. (finished s d p.0 o (outside_in s d p.0.set)).answer) h, q))
finish_name s t d c TooMany p h q = (p.0, p.1, (ap (λ o. (finished s d p.0 o (outside_in s d p.0.set)).answer) h, q))
finish_name s t d c (OpenPremise i x) p h q = absurd h
finish_name s t d c (OpenConclusion x) p h q = absurd h
finish_name s t d c Memory p h q = absurd h

pub finish_open : (s : State) (d : Drafted) (c : ℕ) (S : List Atom) (x : AtomValue) → IsPlainBoundaryOf s c → name_fault (declared_by s.items) d.name ≡ None → set_at s c ≡ Some S
    → Some (atom_of x) ≡ first_outside (map met d.premises) S → Finishes s d c (Err (OpenConclusion x)) s
finish_open s d c S x p h k l = (p.0, p.1, (ap₂ (λ o y. (finished s d p.0 o y).answer) h (outside_is s d c p.0 S (Some (atom_of x)) p.1 k l), refl))

pub finish_memory : (s t : State) (d : Drafted) (c : ℕ) (f : RuleFault) → IsPlainBoundaryOf s c → f ≡ Memory → t ≡ s → Finishes s d c (Err f) t
finish_memory s t d c f p m q = subst (λ f. Finishes s d c (Err f) t) (sym m) (p.0, p.1, (tt, q))

-- What is declared.

-- a draft of the list with a conclusion that it may have, under a name that can be declared
pub record MayFinish (s : State) (d : Drafted) (c : ℕ) : Type 0 where
  pub good : Good s.items
  pub draft : IsDraftOver s.items d
  pub conclusion : IsPlainBoundaryOf s c
  pub name : name_fault (declared_by s.items) d.name ≡ None
  pub closed : outside_in s d conclusion.0.set ≡ None

pub may_finish : (s : State) (d : Drafted) (c : ℕ) → Good s.items → IsDraftOver s.items d → IsPlainBoundaryOf s c → name_fault (declared_by s.items) d.name ≡ None → RestsOnOwn s c (map met d.premises) → MayFinish s d c
may_finish s d c g i p h o = record { good = g; draft = i; conclusion = p; name = h; closed = outside_is s d c p.0 o.0 None p.1 o.1 (sym o.2) }

entry_there : (s : State) (c : ℕ) (a : Assertion) → entry_at s c ≡ Some a → entry_named (store_of s.items) c ≡ Some a
entry_there s c a e = ap (λ es. nth es c) (entries_all empty_store s.items) ∙ e

finish_answer : (s : State) (d : Drafted) (c : ℕ) (f : MayFinish s d c) → (reference.finish (declared_by s.items) (draft_in s.items d) f.conclusion.0).answer ≡ Ok (reference.next_rule (declared_by s.items) (mets_of s.items d.premises) f.conclusion.0)
finish_answer s d c f = ap₂ (λ o y. (finished s d f.conclusion.0 o y).answer) f.name f.closed

finish_laws : (s : State) (d : Drafted) (c : ℕ) (f : MayFinish s d c)
    → Allowed s.items (drafted (draft_in s.items d) c) × ((reference.finish (declared_by s.items) (draft_in s.items d) f.conclusion.0).after ≡ declared_by (s.items ++ drafted (draft_in s.items d) c ∷ []))
finish_laws s d c f =
    (finishes_allowed s.items (draft_in s.items d) c f.conclusion.0 f.draft (entry_there s c f.conclusion.0 f.conclusion.1) f.conclusion.2 f.conclusion.3).0 (finish_answer s d c f)

item_is : (s : State) (d : Drafted) (c : ℕ) → drafted (draft_in s.items d) c ≡ rule d.name d.premises c
item_is s d c = ap (λ ms. rule d.name ms c) (numbers_are s.items d.premises)

pub finish_allowed : (s : State) (d : Drafted) (c : ℕ) (n : Name) (ms : List ℕ) → MayFinish s d c → n ≡ d.name → ms ≡ d.premises → Allowed s.items (rule n ms c)
finish_allowed s d c n ms f e q = subst (Allowed s.items) (item_is s d c ∙ ap₂ (λ n ms. rule n ms c) (sym e) (sym q)) (finish_laws s d c f).0

pub finish_made : (s t : State) (d : Drafted) (c r : ℕ) (n : Name) (ms : List ℕ) → MayFinish s d c → n ≡ d.name → ms ≡ d.premises → t ≡ with_item s (rule n ms c) → r ≡ length (rules_in s.items) → Finishes s d c (Ok r) t
finish_made s t d c r n ms f e q u l = (
  f.conclusion.0,
  f.conclusion.1,
  (
    finish_answer s d c f ∙ ap (λ m. Ok (m, declared_rule (mets_of s.items d.premises) f.conclusion.0)) (rules_many s.items f.good ∙ sym l),
    (finish_laws s d c f).1 ∙ ap (λ j. declared_by (s.items ++ j ∷ [])) (item_is s d c) ∙ ap (λ (t : State). declared_by t.items) (sym there),
    there,
  ),
)
  where
    there : t ≡ with_item s (rule d.name d.premises c)
    there = u ∙ ap₂ (λ n ms. with_item s (rule n ms c)) e q

-- the rules are a finitary theory
pub finish_finitary : (s t : State) (d : Drafted) (c r : ℕ) → MayFinish s d c → Finishes s d c (Ok r) t → (k : ℕ) → FinitaryUpTo k (declared_by t.items).rules
finish_finitary s t d c r f h k =
    subst (λ (X : Declarations). FinitaryUpTo k X.rules) (sym same ∙ h.2.1)
    (finished_is_finitary s.items (draft_in s.items d) c f.conclusion.0 k f.good f.draft (entry_there s c f.conclusion.0 f.conclusion.1) f.conclusion.2 f.conclusion.3)
  where
    one : h.0 ≡ f.conclusion.0
    one = Rattle.std.proofs.lemmas.Option.same_Some h.0 f.conclusion.0 (sym h.1 ∙ f.conclusion.1)

    same : (reference.finish (declared_by s.items) (draft_in s.items d) h.0).after ≡ (reference.finish (declared_by s.items) (draft_in s.items d) f.conclusion.0).after
    same = ap (λ a. (reference.finish (declared_by s.items) (draft_in s.items d) a).after) one

pub stays_finitary : (s t : State) → Good s.items → t ≡ s → (k : ℕ) → FinitaryUpTo k (declared_by t.items).rules
stays_finitary s t g e k = subst (λ (u : State). FinitaryUpTo k (declared_by u.items).rules) (sym e) (rules_finitary s.items g k)

-- the new rule is there
rules_append : (xs ys : List Item) → rules_in (xs ++ ys) ≡ rules_in xs ++ rules_in ys
rules_append [] ys = refl
rules_append (variable v n p ∷ xs) ys = rules_append xs ys
rules_append (metavariable n p ∷ xs) ys = rules_append xs ys
rules_append (rule n ms p ∷ xs) ys = ap (λ rs. (n, ms, p) ∷ rs) (rules_append xs ys)
rules_append (entry e ∷ xs) ys = rules_append xs ys
rules_append (shown p ∷ xs) ys = rules_append xs ys

pub rule_there : (s t : State) (n : Name) (ms : List ℕ) (c r : ℕ) → r ≡ length (rules_in s.items) → t ≡ with_item s (rule n ms c) → r < length (rules_in t.items)
rule_there s t n ms c r l u =
    let more : length (rules_in t.items) ≡ length (rules_in s.items ++ (n, ms, c) ∷ []) = ap (λ (t : State). length (rules_in t.items)) u ∙ ap length (rules_append s.items (rule n ms c ∷ [])) in
    let last : length (rules_in s.items ++ (n, ms, c) ∷ []) ≡ length (rules_in s.items) + 1 = length-append (rules_in s.items) ((n, ms, c) ∷ []) in
    omega (arith, l, more, last)
