-- The lists of items that go along with runs, and the equality rules that were accepted.
use Rattle.std.proofs.Common.{◌≡◌, ℕ, true, false, Some, Result, Ok, List, [], ◌∷◌, ◌++◌, length, ◌⊎◌, inl, inr, sym, ◌∙◌, subst}
use Rattle.ft_common.proofs.Booleans.{false_true}
use Rattle.ft_common.proofs.Results.{ok_ok}
use Rattle.ft_laws.proofs.Finitary.{Sound}
use Rattle.ft_theory.specs.Rules.{Rule, rule_at}
use Rattle.ft_items.specs.Item.{Item, entry, by_btype}
use Rattle.ft_items.specs.Store.{Assertion, nth, add, empty_store, store_of, declared_by, Store}
use Rattle.ft_items.specs.Good.{AllowedIn, Good}
use Rattle.ft_items.proofs.Lists.{store_last, good_last}
use Rattle.ft_sound.proofs.Valid.{Valid, WellFormedStore}
use Rattle.ft_sound.proofs.Good.{nth_last}
use Rattle.ft_sound.proofs.Reasons.{well_formed_add, well_formed_empty}
use Rattle.ft_equality.specs.Shapes.{Computation, Extensionality, ShapeFault, EqualityRules, computation_of, extensionality_of, add_computation, add_extensionality}
use Rattle.ft_equality_laws.specs.Laws.{Each}
use Rattle.ft_equality_laws.proofs.Each.{each_join, each_map}
use Rattle.ft_equality_laws.proofs.Normal.{AllCompute}
use Rattle.ft_equality_laws.proofs.ByType.{AllCompare}
use Rattle.ft_equality_laws.proofs.Accepted.{bind_ok, computes, compares}
use Rattle.ft_meaning.specs.Stages.{Stage, equality}

-- The store of the list is well formed. Where the equality checker is not built, the list is good; else it may have entries of what
-- the checker answered, which have no step.
pub record IsSound (B : Stage) (items : List Item) : Type 0 where
  pub well : WellFormedStore (store_of items)
  pub good : B equality ≡ false → Good items

pub sound_empty : (B : Stage) → IsSound B []
sound_empty B = record { well = well_formed_empty; good = λ without. tt }

pub sound_last : (B : Stage) (items : List Item) (i : Item) → IsSound B items → AllowedIn (store_of items) i → IsSound B (items ++ (i ∷ []))
sound_last B items i l a = record {
  well = subst WellFormedStore (sym (store_last empty_store items i)) (well_formed_add (store_of items) l.well i a);
  good = λ without. good_last empty_store items i (l.good without) a;
}

-- the entry of what is valid, with any step
abbrev pub told_entry : Assertion → Item
told_entry a = entry (record { statement = a.statement; set = a.set; step = by_btype })

with_entry : (W : Store) → WellFormedStore W → (a : Assertion) → Valid W.declarations a.statement a.set → WellFormedStore (add W (told_entry a))
with_entry W F a v = record {
  declarations = F.declarations;
  entries = λ p b q. entries p b (nth_last W.entries (record { statement = a.statement; set = a.set }) p b q);
}
  where
    entries : (p : ℕ) (b : Assertion) → (nth W.entries p ≡ Some b) ⊎ ((p ≡ length W.entries) × (record { statement = a.statement; set = a.set } ≡ b)) → Valid W.declarations b.statement b.set
    entries p b (inl q) = F.entries p b q
    entries p b (inr q) = subst (λ (z : Assertion). Valid W.declarations z.statement z.set) q.1 v

pub sound_valid : (B : Stage) (items : List Item) (a : Assertion) → B equality ≡ true → IsSound B items → Valid (declared_by items) a.statement a.set → IsSound B (items ++ (told_entry a ∷ []))
sound_valid B items a built l v = record {
  well = subst WellFormedStore (sym (store_last empty_store items (told_entry a))) (with_entry (store_of items) l.well a v);
  good = λ without. false_true (sym without ∙ built);
}

-- an equality rule that a rule of the theory is
abbrev IsFrom : {A : Type 0} → (ℕ → Rule → Result A ShapeFault) → List Rule → A → Type 0
IsFrom shape T a = (r : ℕ) × (R : Rule) × (rule_at T r ≡ Some R) × (shape r R ≡ Ok a)

-- The equality rules were accepted, over the rules.
abbrev pub AreAccepted : List Rule → EqualityRules → Type 0
AreAccepted T E = Each (IsFrom computation_of T) E.computations × Each (IsFrom extensionality_of T) E.extensionalities

pub accepted_later : (T U : List Rule) (E : EqualityRules) → ((r : ℕ) (R : Rule) → rule_at T r ≡ Some R → rule_at U r ≡ Some R) → AreAccepted T E → AreAccepted U E
accepted_later T U E w h = (
  each_map (IsFrom computation_of T) (IsFrom computation_of U) E.computations (λ c k. (k.0, k.1, w k.0 k.1 k.2, k.3)) h.0,
  each_map (IsFrom extensionality_of T) (IsFrom extensionality_of U) E.extensionalities (λ x k. (k.0, k.1, w k.0 k.1 k.2, k.3)) h.1,
)

pub computation_added : (T : List Rule) (E D : EqualityRules) (r : ℕ) (R : Rule) → rule_at T r ≡ Some R → add_computation E r R ≡ Ok D → AreAccepted T E → AreAccepted T D
computation_added T E D r R q h e =
    let b : (c : Computation) × (computation_of r R ≡ Ok c) × (Ok (record E { computations = E.computations ++ c ∷ [] }) ≡ Ok D) = bind_ok (computation_of r R) (λ c. Ok (record E { computations = E.computations ++ c ∷ [] })) D h in
    subst (AreAccepted T) (ok_ok (record E { computations = E.computations ++ b.0 ∷ [] }) D b.2) (each_join (IsFrom computation_of T) E.computations (b.0 ∷ []) e.0 ((r, R, q, b.1), tt), e.1)

pub extensionality_added : (T : List Rule) (E D : EqualityRules) (r : ℕ) (R : Rule) → rule_at T r ≡ Some R → add_extensionality E r R ≡ Ok D → AreAccepted T E → AreAccepted T D
extensionality_added T E D r R q h e =
    let b : (x : Extensionality) × (extensionality_of r R ≡ Ok x) × (Ok (record E { extensionalities = E.extensionalities ++ x ∷ [] }) ≡ Ok D) = bind_ok (extensionality_of r R) (λ x. Ok (record E { extensionalities = E.extensionalities ++ x ∷ [] })) D h in
    subst (AreAccepted T) (ok_ok (record E { extensionalities = E.extensionalities ++ b.0 ∷ [] }) D b.2) (e.0, each_join (IsFrom extensionality_of T) E.extensionalities (b.0 ∷ []) e.1 ((r, R, q, b.1), tt))

pub all_compute : (T : List Rule) (cs : List Computation) → Each (IsFrom computation_of T) cs → AllCompute T cs
all_compute T [] h = tt
all_compute T (c ∷ cs) h = (computes T h.0.0 h.0.1 c h.0.2 h.0.3, all_compute T cs h.1)

pub all_compare : (T : List Rule) → Sound T → (xs : List Extensionality) → Each (IsFrom extensionality_of T) xs → AllCompare T xs
all_compare T so [] h = tt
all_compare T so (x ∷ xs) h = (compares T so h.0.0 h.0.1 x h.0.2 h.0.3, all_compare T so xs h.1)
