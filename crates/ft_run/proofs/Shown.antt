-- What has an entry that rests on nothing is derivable over the declared rules.
use Rattle.std.proofs.Common.{◌≡◌, ◌∙◌, sym, ap, refl, subst, ℕ, zero, suc, List, [], ◌∷◌, ◌++◌, Option, Some, None, append_assoc, append-nil}
use Rattle.std.proofs.lemmas.Option.{none-some, same_Some}
use Rattle.ft_theory.specs.Statements.{Claim, plain}
use Rattle.ft_theory.specs.Rules.{Rule}
use Rattle.ft_theory.specs.Steps.{Prim}
use Rattle.ft_laws.proofs.DerivationLaws.{law_longer_theory_primitive}
use Rattle.ft_items.specs.Item.{Name, Item, Entry, variable, metavariable, rule, entry, shown}
use Rattle.ft_items.specs.Store.{Assertion, Declared, Store, Derivable, nth, each, entry_named, metavariable_named, add_variable, add_metavariable, add_rule, add, add_all, empty_store, store_of, entries_in, Declarations, declared_by}
use Rattle.ft_items.specs.Good.{Good}
use Rattle.ft_sound.proofs.Theorems.{entries_derivable}
use Rattle.ft_kernel.specs.State.{State}
use Rattle.ft_applications_meaning.specs.Building.{theory}
use Rattle.ft_run.specs.declared.session.Known.{Known}
use Rattle.ft_run.specs.Session.{Progress, declarations, IsSession, HasEntry}
use Rattle.ft_run.proofs.Going.{add_append}

-- an entry of the list, with the items around it
record Placed (items : List Item) (a : Assertion) : Type 0 where
  pub before : List Item
  pub after : List Item
  pub this : Entry
  pub split : items ≡ before ++ (entry this ∷ after)
  pub is : record { statement = this.statement; set = this.set } ≡ a

later : (i : Item) (items : List Item) (a : Assertion) → Placed items a → Placed (i ∷ items) a
later i items a x = record { before = i ∷ x.before; after = x.after; this = x.this; split = ap (λ js. i ∷ js) x.split; is = x.is }

placed : (items : List Item) (j : ℕ) (a : Assertion) → nth (entries_in items) j ≡ Some a → Placed items a
placed [] j a h = absurd (none-some a h)
placed (variable v n p ∷ items) j a h = later (variable v n p) items a (placed items j a h)
placed (metavariable n p ∷ items) j a h = later (metavariable n p) items a (placed items j a h)
placed (rule n ms p ∷ items) j a h = later (rule n ms p) items a (placed items j a h)
placed (entry e ∷ items) zero a h = record { before = []; after = items; this = e; split = refl; is = same_Some (record { statement = e.statement; set = e.set }) a h }
placed (entry e ∷ items) (suc j) a h = later (entry e) items a (placed items j a h)
placed (shown p ∷ items) j a h = later (shown p) items a (placed items j a h)

-- Rules stay.

abbrev HasMore : List Rule → List Rule → Type 0
HasMore T U = (more : List Rule) × (U ≡ T ++ more)

more_none : (T U : List Rule) → U ≡ T → HasMore T U
more_none T U e = ([], e ∙ sym (append-nil T))

more_variable : (W : Declarations) (v : ℕ) (n : Name) (o : Option Assertion) → HasMore W.rules (add_variable W v n o).rules
more_variable W v n None = more_none W.rules W.rules refl
more_variable W v n (Some a) = more_none W.rules W.rules refl

more_metavariable : (W : Declarations) (n : Name) (o : Option Assertion) → HasMore W.rules (add_metavariable W n o).rules
more_metavariable W n None = more_none W.rules W.rules refl
more_metavariable W n (Some a) = more_none W.rules W.rules refl

more_rule : (W : Declarations) (n : Name) (os : Option (List (ℕ × Declared))) (o : Option Assertion) → HasMore W.rules (add_rule W n os o).rules
more_rule W n None o = more_none W.rules W.rules refl
more_rule W n (Some ds) None = more_none W.rules W.rules refl
more_rule W n (Some ds) (Some a) = (_, refl)

more_after : (W : Store) (i : Item) → HasMore W.declarations.rules (add W i).declarations.rules
more_after W (variable v n p) = more_variable W.declarations v n (entry_named W p)
more_after W (metavariable n p) = more_metavariable W.declarations n (entry_named W p)
more_after W (rule n ms p) = more_rule W.declarations n (each (metavariable_named W.declarations) ms) (entry_named W p)
more_after W (entry e) = more_none W.declarations.rules W.declarations.rules refl
more_after W (shown p) = more_none W.declarations.rules W.declarations.rules refl

more_then : (T U V : List Rule) → HasMore T U → HasMore U V → HasMore T V
more_then T U V f g = (f.0 ++ g.0, g.1 ∙ ap (λ us. us ++ g.0) f.1 ∙ append_assoc T f.0 g.0)

more_all : (W : Store) (items : List Item) → HasMore W.declarations.rules (add_all W items).declarations.rules
more_all W [] = more_none W.declarations.rules W.declarations.rules refl
more_all W (i ∷ items) = more_then W.declarations.rules (add W i).declarations.rules (add_all (add W i) items).declarations.rules (more_after W i) (more_all (add W i) items)

derivable_in : (items : List Item) (j : ℕ) (c : Claim) → Good items → nth (entries_in items) j ≡ Some (record { statement = plain c; set = [] }) → Prim (declared_by items).rules [] [] (plain c)
derivable_in items j c g h =
    let x = placed items j (record { statement = plain c; set = [] }) h in
    let before : Store = store_of x.before in
    let here : Prim before.declarations.rules [] [] (plain c) =
    subst (λ (a : Assertion). Derivable before.declarations a.statement a.set) x.is (entries_derivable items g x.before x.after x.this x.split) in
    let all : store_of items ≡ add_all before (entry x.this ∷ x.after) = ap store_of x.split ∙ add_append empty_store x.before (entry x.this ∷ x.after) in
    let more : HasMore before.declarations.rules (add_all before (entry x.this ∷ x.after)).declarations.rules = more_all before (entry x.this ∷ x.after) in
    subst (λ T. Prim T [] [] (plain c)) (sym more.1 ∙ ap (λ (W : Store). W.declarations.rules) (sym all)) (law_longer_theory_primitive before.declarations.rules more.0 [] [] (plain c) here)

-- what is claimed is derivable
pub claimed_derivable : (s : State) (ks : List Known) (p : Progress) (j : ℕ) (c : Claim) → IsSession s ks → Good s.items → record { state = s; rules = declarations s.trees ks } ≡ p → HasEntry p.state j c
    → Prim (theory p.rules) [] [] (plain c)
claimed_derivable s ks p j c h g v e =
    let st : p.state ≡ s = ap (λ (p : Progress). p.state) (sym v) in
    let here : Prim (declared_by s.items).rules [] [] (plain c) = derivable_in s.items j c g (subst (λ (s : State). HasEntry s j c) st e) in
    subst (λ T. Prim T [] [] (plain c)) (h.rules ∙ ap (λ (p : Progress). theory p.rules) v) here
