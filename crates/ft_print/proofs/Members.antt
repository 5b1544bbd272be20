-- What metavariables and variables of a good list declare, by the entries that they name.
use Rattle.std.proofs.Common.{◌≡◌, ◌≢◌, ◌∙◌, sym, ap, ap₂, refl, subst, ℕ, zero, suc, ◌<◌, ◌≤◌, nat_eq, Bool, true, false, cond, Option, Some, None, option_map, List, [], ◌∷◌, ◌++◌, codes, length, map, take, slice_get, append_assoc, Result, OnOk}
use Rattle.ft_common.proofs.Booleans.{false_true}
use Rattle.ft_common.proofs.Options.{none_some}
use Rattle.std.proofs.lemmas.Option.{same_Some}
use Rattle.ft_theory.specs.Expressions.{Expression}
use Rattle.ft_theory.specs.Statements.{is_type, has_type, equal_types, equal_terms, type_goal, term_goal, type_equation_goal, term_equation_goal, Statement, plain, abstracted}
use Rattle.ft_theory.specs.Rules.{look_up}
use Rattle.ft_items.specs.Equal.{is_thesis}
use Rattle.ft_items.specs.Item.{Name, Item, variable, metavariable, rule, entry, shown}
use Rattle.ft_items.specs.Store.{Assertion, Store, nth, annotated, declared, type_in, empty_store, add, add_all, entries_in, variables_in, metavariables_in, Declarations, declared_by}
use Rattle.ft_items.specs.Good.{Good, GoodAfter, is_plain_type}
use Rattle.ft_items.proofs.Lists.{entries_all, before_all}
use Rattle.ft_syntax.specs.Table.{tree}
use Rattle.ft_judge.specs.Meaning.{thesis_in, under, claim_in, FormBelow, ThesisBelow}
use Rattle.ft_judge.specs.declared.judgement.Thesis.{Thesis}
use Rattle.ft_judge.specs.declared.judgement.Form.{Form}
use Rattle.ft_judge.specs.declared.judgement.Form.TheVariants.{Ty, Tm, EqTy, EqTm}
use Rattle.ft_kernel.specs.State.{State, entry_at, statement_at, IsThesisOf, IsBoundaryOf, variable_numbered}
use Rattle.ft_meaning.specs.Texts.{Text, metavariable_text, variable_text, of_type_text, statement_text, joined, metavariable_member, variable_member, member_text}
use Rattle.ft_print.specs.Domains.{IsPlainType}
use Rattle.ft_print.proofs.Naming.{metavariable_at, metavariable_none, variable_at, variable_none, nothing_written}
use Rattle.ft_print.proofs.Joining.{two_parts, written_more, joined_next}
use Rattle.ft_assume.specs.Atoms.{atom_of, atoms_of}
use Rattle.ft_assume.specs.declared.atom.Atom.{Atom as AtomValue}

-- the entry of a metavariable is a boundary
met_entry : (W : Store) (items : List Item) → GoodAfter W items → (m : ℕ) (n : Name) (p : ℕ) → nth (metavariables_in items) m ≡ Some (n, p) → (a : Assertion) × (nth (add_all W items).entries p ≡ Some a) × (is_thesis a.statement ≡ false)
met_entry W [] g m n p e = none_some e
met_entry W (metavariable k q ∷ items) g zero n p e =
    let a : Assertion = g.0.0 in
    let same : q ≡ p = ap (λ (y : Name × ℕ). y.1) (same_Some (k, q) (n, p) e) in
    (a, ap (nth (add_all W (metavariable k q ∷ items)).entries) (sym same) ∙ (before_all W (metavariable k q ∷ items)).entries q a g.0.1, g.0.2)
met_entry W (metavariable k q ∷ items) g (suc m) n p e = met_entry (add W (metavariable k q)) items g.1 m n p e
met_entry W (variable v k q ∷ items) g m n p e = met_entry (add W (variable v k q)) items g.1 m n p e
met_entry W (rule k ms q ∷ items) g m n p e = met_entry (add W (rule k ms q)) items g.1 m n p e
met_entry W (entry d ∷ items) g m n p e = met_entry (add W (entry d)) items g.1 m n p e
met_entry W (shown q ∷ items) g m n p e = met_entry (add W (shown q)) items g.1 m n p e

pub boundary_there : (s : State) (m : ℕ) (n : Name) (p : ℕ) → Good s.items → nth (metavariables_in s.items) m ≡ Some (n, p) → IsBoundaryOf s p
boundary_there s m n p g e = let k = met_entry empty_store s.items g m n p e in (k.0, ap (λ es. nth es p) (sym (entries_all empty_store s.items)) ∙ k.1, k.2)

by_choice : {P : Type 0} (b : Bool) (k n : Name) (q p : ℕ) (rest : Option (Name × ℕ)) → cond b (Some (k, q)) rest ≡ Some (n, p) → (q ≡ p → P) → (rest ≡ Some (n, p) → P) → P
by_choice true k n q p rest e f g = f (ap (λ (y : Name × ℕ). y.1) (same_Some (k, q) (n, p) e))
by_choice false k n q p rest e f g = g e

-- the entry of a variable is a plain type
var_entry : (W : Store) (items : List Item) → GoodAfter W items → (v : ℕ) (n : Name) (p : ℕ) → variable_numbered (variables_in items) v ≡ Some (n, p) → (a : Assertion) × (nth (add_all W items).entries p ≡ Some a) × (is_plain_type a.statement ≡ true)
var_entry W [] g v n p e = none_some e
var_entry W (variable w k q ∷ items) g v n p e =
    by_choice {P = (a : Assertion) × (nth (add_all W (variable w k q ∷ items)).entries p ≡ Some a) × (is_plain_type a.statement ≡ true)} (nat_eq w v) k n q p (variable_numbered (variables_in items) v) e
    (λ same. (g.0.1, ap (nth (add_all W (variable w k q ∷ items)).entries) (sym same) ∙ (before_all W (variable w k q ∷ items)).entries q g.0.1 g.0.2, g.0.3))
    (λ r. var_entry (add W (variable w k q)) items g.1 v n p r)
var_entry W (metavariable k q ∷ items) g v n p e = var_entry (add W (metavariable k q)) items g.1 v n p e
var_entry W (rule k ms q ∷ items) g v n p e = var_entry (add W (rule k ms q)) items g.1 v n p e
var_entry W (entry d ∷ items) g v n p e = var_entry (add W (entry d)) items g.1 v n p e
var_entry W (shown q ∷ items) g v n p e = var_entry (add W (shown q)) items g.1 v n p e

plain_thesis : (x : Statement) → is_plain_type x ≡ true → is_thesis x ≡ true
plain_thesis (plain (is_type A)) e = refl
plain_thesis (plain (has_type t A)) e = false_true e
plain_thesis (plain (equal_types A B)) e = false_true e
plain_thesis (plain (equal_terms t u A)) e = false_true e
plain_thesis (plain type_goal) e = false_true e
plain_thesis (plain (term_goal A)) e = false_true e
plain_thesis (plain (type_equation_goal A B)) e = false_true e
plain_thesis (plain (term_equation_goal t u A)) e = false_true e
plain_thesis (abstracted A x) e = false_true e

at_var : (s : State) (v : ℕ) (n : Name) (p : ℕ) → Good s.items → variable_numbered (variables_in s.items) v ≡ Some (n, p) → (a : Assertion) × (entry_at s p ≡ Some a) × (is_plain_type a.statement ≡ true)
at_var s v n p g e = let k = var_entry empty_store s.items g v n p e in (k.0, ap (λ es. nth es p) (sym (entries_all empty_store s.items)) ∙ k.1, k.2)

pub type_there : (s : State) (v : ℕ) (n : Name) (p : ℕ) → Good s.items → variable_numbered (variables_in s.items) v ≡ Some (n, p) → IsThesisOf s p
type_there s v n p g e = let k = at_var s v n p g e in (k.0, k.1, plain_thesis k.0.statement k.2)

plain_is : (ts : List Expression) (ds : List ℕ) (f : Form) → is_plain_type (under ts ds (plain (claim_in ts f))) ≡ true → (ds ≡ []) × (a : ℕ) × (f ≡ Ty a)
plain_is ts [] (Ty a) e = (refl, a, refl)
plain_is ts [] (Tm t a) e = false_true e
plain_is ts [] (EqTy a b) e = false_true e
plain_is ts [] (EqTm t u a) e = false_true e
plain_is ts (d ∷ ds) f e = false_true e

pub plain_type : (s : State) (v : ℕ) (n : Name) (p : ℕ) (x : Thesis) → Good s.items → variable_numbered (variables_in s.items) v ≡ Some (n, p) → statement_at s p ≡ Some (thesis_in s.trees x) → IsPlainType x
plain_type s v n p x g e f =
    let k = at_var s v n p g e in
    let same : k.0.statement ≡ thesis_in s.trees x = same_Some k.0.statement (thesis_in s.trees x) (sym (ap (option_map (λ (a : Assertion). a.statement)) k.1) ∙ f) in
    plain_is s.trees x.domains x.form (sym (ap is_plain_type same) ∙ k.2)

pub plain_type_in : (ts : List Expression) (x : Thesis) (a : ℕ) → IsPlainType x → x.form ≡ Ty a → type_in (thesis_in ts x) ≡ tree ts a
plain_type_in ts x a h e = ap₂ (λ ds f. type_in (under ts ds (plain (claim_in ts f)))) h.0 e

pub plain_type_below : (n : ℕ) (x : Thesis) (a : ℕ) → ThesisBelow n x → x.form ≡ Ty a → a < n
plain_type_below n x a b e = subst (λ f. FormBelow n f) e b.1

declared_boundary : (y : Name × ℕ) (o : Option Assertion) (x : Statement) → option_map (λ (a : Assertion). a.statement) o ≡ Some x → (declared y o).boundary ≡ x
declared_boundary y None x e = none_some e
declared_boundary y (Some a) x e = same_Some a.statement x e

annotated_type : (y : ℕ × Name × ℕ) (o : Option Assertion) (x : Statement) → option_map (λ (a : Assertion). a.statement) o ≡ Some x → (annotated y o).1.annotation ≡ type_in x
annotated_type y None x e = none_some e
annotated_type y (Some a) x e = ap type_in (same_Some a.statement x e)

pub metavariable_declared : (s : State) (vs : List ℕ) (m : ℕ) (n : Name) (p : ℕ) (x : Statement) → Good s.items → nth (metavariables_in s.items) m ≡ Some (n, p) → statement_at s p ≡ Some x
    → metavariable_member (declared_by s.items) vs m (nth (declared_by s.items).metavariables m) ≡ metavariable_text (declared_by s.items) vs m ++ codes " := " ++ statement_text (declared_by s.items) vs zero x
metavariable_declared s vs m n p x g e f =
    let W : Declarations = declared_by s.items in
    ap (metavariable_member W vs m) (metavariable_at s.items m g ∙ ap (option_map (λ (y : Name × ℕ). declared y (nth (entries_in s.items) y.1))) e)
    ∙ ap (λ y. metavariable_text W vs m ++ codes " := " ++ statement_text W vs zero y) (declared_boundary (n, p) (nth (entries_in s.items) p) x f)

pub variable_declared : (s : State) (vs : List ℕ) (v : ℕ) (n : Name) (p : ℕ) (x : Statement) → Good s.items → variable_numbered (variables_in s.items) v ≡ Some (n, p) → statement_at s p ≡ Some x
    → variable_member (declared_by s.items) vs v (look_up (declared_by s.items).variables v) ≡ variable_text (declared_by s.items) vs v ++ of_type_text (declared_by s.items) vs zero (type_in x)
variable_declared s vs v n p x g e f =
    let W : Declarations = declared_by s.items in
    ap (variable_member W vs v) (variable_at s.items v g ∙ ap (option_map (λ (y : Name × ℕ). (annotated (v, y.0, y.1) (nth (entries_in s.items) y.1)).1)) e)
    ∙ ap (λ A. variable_text W vs v ++ of_type_text W vs zero A) (annotated_type (v, n, p) (nth (entries_in s.items) p) x f)

-- a metavariable with its boundary, as it is written
pub metavariable_written : {A E : Type 0} (r : Result A E) (s : State) (vs : List ℕ) (m f : ℕ) (n : Name) (p : ℕ) (x : Statement) (old a b new : Text) → Good s.items → f ≡ m → nth (metavariables_in s.items) f ≡ Some (n, p)
    → statement_at s p ≡ Some x → a ≡ old ++ metavariable_text (declared_by s.items) [] m → b ≡ a ++ codes " := " → OnOk r (new ≡ b ++ statement_text (declared_by s.items) vs zero x)
    → OnOk r (new ≡ old ++ metavariable_member (declared_by s.items) vs m (nth (declared_by s.items).metavariables m))
metavariable_written r s vs m f n p x old a b new g same e q ea eb h =
    let W : Declarations = declared_by s.items in
    two_parts r old (metavariable_text W vs m ++ codes " := ") (statement_text W vs zero x) b new (metavariable_member W vs m (nth W.metavariables m))
    (metavariable_declared s vs m n p x g (ap (nth (metavariables_in s.items)) (sym same) ∙ e) q)
    (eb ∙ ap (λ z. z ++ codes " := ") ea ∙ append_assoc old (metavariable_text W vs m) (codes " := ")) h

-- a variable with its type, as it is written
pub variable_written : {A E : Type 0} (r : Result A E) (s : State) (vs : List ℕ) (v f : ℕ) (n : Name) (p : ℕ) (x : Statement) (T : Expression) (old a new : Text) → Good s.items → f ≡ v → variable_numbered (variables_in s.items) f ≡ Some (n, p)
    → statement_at s p ≡ Some x → type_in x ≡ T → a ≡ old ++ variable_text (declared_by s.items) vs v → OnOk r (new ≡ a ++ of_type_text (declared_by s.items) vs zero T)
    → OnOk r (new ≡ old ++ variable_member (declared_by s.items) vs v (look_up (declared_by s.items).variables v))
variable_written r s vs v f n p x T old a new g same e q t ea h =
    let W : Declarations = declared_by s.items in
    two_parts r old (variable_text W vs v) (of_type_text W vs zero T) a new (variable_member W vs v (look_up W.variables v))
    (variable_declared s vs v n p x g (ap (variable_numbered (variables_in s.items)) (sym same) ∙ e) q ∙ ap (λ A. variable_text W vs v ++ of_type_text W vs zero A) t) ea h

pub no_metavariable : (items : List Item) (vs : List ℕ) (m : ℕ) (old : Text) → Good items → length (metavariables_in items) ≤ m → old ≡ old ++ metavariable_member (declared_by items) vs m (nth (declared_by items).metavariables m)
no_metavariable items vs m old g l = nothing_written old (metavariable_member (declared_by items) vs m (nth (declared_by items).metavariables m)) (ap (metavariable_member (declared_by items) vs m) (metavariable_none items m g l))

pub no_variable : (items : List Item) (vs : List ℕ) (v : ℕ) (old : Text) → Good items → variable_numbered (variables_in items) v ≡ None → old ≡ old ++ variable_member (declared_by items) vs v (look_up (declared_by items).variables v)
no_variable items vs v old g e = nothing_written old (variable_member (declared_by items) vs v (look_up (declared_by items).variables v)) (ap (variable_member (declared_by items) vs v) (variable_none items v g e))

-- one more member of a context
pub member_next : (W : Declarations) (vs : List ℕ) (atoms : List AtomValue) (i : ℕ) (a : AtomValue) (b old out mid new : Text) → slice_get atoms i ≡ Some a → (i ≡ 0 → b ≡ []) → (i ≢ 0 → b ≡ codes ", ")
    → out ≡ old ++ joined (map (member_text W vs) (take i (atoms_of atoms))) → mid ≡ out ++ b → new ≡ mid ++ member_text W vs (atom_of a) → new ≡ old ++ joined (map (member_text W vs) (take (suc i) (atoms_of atoms)))
member_next W vs atoms i a b old out mid new g first next o m e =
    written_more old (joined (map (member_text W vs) (take i (atoms_of atoms)))) b (member_text W vs (atom_of a)) out mid new (joined (map (member_text W vs) (take (suc i) (atoms_of atoms))))
    (joined_next (member_text W vs) (atoms_of atoms) i (atom_of a) b (mapped atoms i g) first next) o m e
  where
    mapped : (atoms : List AtomValue) (i : ℕ) → slice_get atoms i ≡ Some a → slice_get (atoms_of atoms) i ≡ Some (atom_of a)
    mapped [] i g = none_some g
    mapped (x ∷ xs) zero g = ap (λ a. Some (atom_of a)) (same_Some x a g)
    mapped (x ∷ xs) (suc i) g = mapped xs i g
