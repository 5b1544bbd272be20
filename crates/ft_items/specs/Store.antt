-- The store of a list of items: the rules, metavariables and variables that it declares, and the statements that it derives.
-- Also the sequent of a statement, and what the numbers in a step name.
use Rattle.std.specs.Prelude.{ℕ, zero, suc, Option, Some, None, ◌≡◌, List, [], ◌∷◌, ◌++◌, option_map, option_and_then}
use Rattle.ft_theory.specs.Expressions.{Expression, bound}
use Rattle.ft_theory.specs.Statements.{Claim, is_type, type_goal, Statement, plain, abstracted}
use Rattle.ft_theory.specs.Rules.{look_up, Rule, rule_at}
use Rattle.ft_theory.specs.Steps.{Sequent, sequent, Prim}
use Rattle.ft_items.specs.Sets.{Atom, met, var}
use Rattle.ft_items.specs.Item.{Justification, by_var, by_generic, by_meta, by_metacong, by_abs, by_subst, by_substeq, by_refl, by_sym, by_trans, by_conv, by_conveq, by_left, by_right, by_typeof, by_domain, by_boundary, by_widen, by_btype, by_bterm, by_beqty, by_beqtm, by_rule, by_rulewith, by_inst, by_cong, by_convprem, by_convback, by_arg, by_natural, by_metainst, Stated, Name, Item, variable, metavariable, rule, entry, shown}

-- An assertion is a thesis or a boundary with the set of what it rests on.
pub record Assertion : Type 0 where
  pub statement : Statement
  pub set : List Atom

-- what is declared of a variable: its name, its type, and the set of the entry of that type
pub record Annotation : Type 0 where
  pub name : Name
  pub annotation : Expression
  pub set : List Atom

-- what is declared of a metavariable: its name, its boundary, and the set of the entry of that boundary
pub record Declared : Type 0 where
  pub name : Name
  pub boundary : Statement
  pub set : List Atom

-- The declarations of a list are its rules with their names beside them, its metavariables and its variables, each in the order
-- of the list. Variables have numbers of their own; the others are counted from 0.
pub record Declarations : Type 0 where
  pub rules : List Rule
  pub names : List Name
  pub metavariables : List Declared
  pub variables : List (ℕ × Annotation)

-- A store has the declarations of a list, and its entries in the order of the list, counted from 0.
pub record Store : Type 0 where
  pub declarations : Declarations
  pub entries : List Assertion

-- the member at a place, counted from 0
abbrev pub nth : {A : Type 0} → List A → ℕ → Option A
nth [] n = None
nth (x ∷ xs) zero = Some x
nth (x ∷ xs) (suc n) = nth xs n

-- the map with the boundary of one more metavariable, where it is declared
abbrev pub with_boundary : ℕ → Option Declared → List (ℕ × Statement) → List (ℕ × Statement)
with_boundary m None M = M
with_boundary m (Some d) M = (m, d.boundary) ∷ M

-- the metavariables of a set, each with its boundary
abbrev pub boundaries_in : Declarations → List Atom → List (ℕ × Statement)
boundaries_in W [] = []
boundaries_in W (met m ∷ S) = with_boundary m (nth W.metavariables m) (boundaries_in W S)
boundaries_in W (var v ∷ S) = boundaries_in W S

-- the map with the annotation of one more variable, where it is declared
abbrev pub with_annotation : ℕ → Option Annotation → List (ℕ × Expression) → List (ℕ × Expression)
with_annotation v None G = G
with_annotation v (Some d) G = (v, d.annotation) ∷ G

-- the variables of a set, each with its annotation, which is its type
abbrev pub annotations_in : Declarations → List Atom → List (ℕ × Expression)
annotations_in W [] = []
annotations_in W (met m ∷ S) = annotations_in W S
annotations_in W (var v ∷ S) = with_annotation v (look_up W.variables v) (annotations_in W S)

-- The sequent of a statement and its set: over the metavariables and the variables of the set, the statement.
abbrev pub sequent_in : Declarations → Statement → List Atom → Sequent
sequent_in W x S = sequent (boundaries_in W S) (annotations_in W S) x

-- the sequent is derivable, by primitive steps, over the declared rules
abbrev pub Derivable : Declarations → Statement → List Atom → Type 0
Derivable W x S = Prim W.rules (boundaries_in W S) (annotations_in W S) x

-- a member of a context is declared, and its boundary or its type is derivable over the members done before it
abbrev pub MemberHolds : Declarations → List Atom → Atom → Type 0
MemberHolds W done (met m) = (d : Declared) × (nth W.metavariables m ≡ Some d) × Derivable W d.boundary done
MemberHolds W done (var v) = (d : Annotation) × (look_up W.variables v ≡ Some d) × Derivable W (plain (is_type d.annotation)) done

-- each of these members holds over those done before it
abbrev pub MembersHold : Declarations → List Atom → List Atom → Type 0
MembersHold W done [] = Unit {0}
MembersHold W done (a ∷ S) = MemberHolds W done a × MembersHold W (done ++ (a ∷ [])) S

-- The context of a set is well formed: each member holds over those before it.
abbrev pub WellFormedContext : Declarations → List Atom → Type 0
WellFormedContext W S = MembersHold W [] S

-- the declarations and the store before any item
abbrev pub no_declarations : Declarations
no_declarations = record { rules = []; names = []; metavariables = []; variables = [] }

abbrev pub empty_store : Store
empty_store = record { declarations = no_declarations; entries = [] }

-- the type that a plain thesis `A type` is about; for others a dummy
abbrev pub type_in : Statement → Expression
type_in (plain (is_type A)) = A
type_in x = bound zero

-- the claim or goal of a plain statement; for others a dummy
abbrev pub claim_in : Statement → Claim
claim_in (plain c) = c
claim_in (abstracted A x) = type_goal

-- the premises of a rule: the numbers of its metavariables, each with its boundary
abbrev pub premises_of : List (ℕ × Declared) → List (ℕ × Statement)
premises_of [] = []
premises_of (d ∷ ds) = (d.0, d.1.boundary) ∷ premises_of ds

-- what f gives for each of the list; None where it gives none for one of them
abbrev pub each : {A : Type 0} {B : Type 0} → (A → Option B) → List A → Option (List B)
each f [] = Some []
each f (a ∷ as') = option_and_then (λ b. option_map (λ bs. b ∷ bs) (each f as')) (f a)

-- What numbers name.

-- the entry of a number
abbrev pub entry_named : Store → ℕ → Option Assertion
entry_named W p = nth W.entries p

-- the variable of a number, with the number
abbrev pub variable_named : Declarations → ℕ → Option (ℕ × Annotation)
variable_named W v = option_map (λ d. (v, d)) (look_up W.variables v)

-- the metavariable of a number, with the number
abbrev pub metavariable_named : Declarations → ℕ → Option (ℕ × Declared)
metavariable_named W m = option_map (λ d. (m, d)) (nth W.metavariables m)

-- the rule of a number, with the number
abbrev pub rule_named : Declarations → ℕ → Option (ℕ × Rule)
rule_named W r = option_map (λ R. (r, R)) (rule_at W.rules r)

-- What is declared with an entry, for which an assertion stands.

-- what is declared of a variable with this name and this type: both, and the set on which the type rests
abbrev pub declared_variable : Name → Assertion → Annotation
declared_variable n p = record { name = n; annotation = type_in p.statement; set = p.set }

-- what is declared of a metavariable with this name and this boundary: both, and the set on which the boundary rests
abbrev pub declared_metavariable : Name → Assertion → Declared
declared_metavariable n b = record { name = n; boundary = b.statement; set = b.set }

-- the rule with these premises and this boundary as its conclusion
abbrev pub declared_rule : List (ℕ × Declared) → Assertion → Rule
declared_rule ds c = record { premises = premises_of ds; conclusion = claim_in c.statement }

-- What an item adds. It adds nothing where it names what is not there.

-- a variable with the type and the set of its entry
abbrev pub add_variable : Declarations → ℕ → Name → Option Assertion → Declarations
add_variable W v n None = W
add_variable W v n (Some p) = record W { variables = W.variables ++ ((v, declared_variable n p) ∷ []) }

-- a metavariable with the boundary and the set of its entry
abbrev pub add_metavariable : Declarations → Name → Option Assertion → Declarations
add_metavariable W n None = W
add_metavariable W n (Some p) = record W { metavariables = W.metavariables ++ (declared_metavariable n p ∷ []) }

-- a rule with the boundaries of its metavariables and the conclusion of its entry
abbrev pub add_rule : Declarations → Name → Option (List (ℕ × Declared)) → Option Assertion → Declarations
add_rule W n None p = W
add_rule W n (Some ms) None = W
add_rule W n (Some ms) (Some p) = record W { rules = W.rules ++ (declared_rule ms p ∷ []); names = W.names ++ (n ∷ []) }

-- the store after one more item; a shown mark adds nothing
abbrev pub add : Store → Item → Store
add W (variable v n p) = record W { declarations = add_variable W.declarations v n (entry_named W p) }
add W (metavariable n p) = record W { declarations = add_metavariable W.declarations n (entry_named W p) }
add W (rule n ms p) = record W { declarations = add_rule W.declarations n (each (metavariable_named W.declarations) ms) (entry_named W p) }
add W (entry e) = record W { entries = W.entries ++ (record { statement = e.statement; set = e.set } ∷ []) }
add W (shown p) = W

-- the store after further items
abbrev pub add_all : Store → List Item → Store
add_all W [] = W
add_all W (i ∷ items) = add_all (add W i) items

-- the store of a list of items
abbrev pub store_of : List Item → Store
store_of items = add_all empty_store items

-- the declarations of a list of items
abbrev pub declared_by : List Item → Declarations
declared_by items = (store_of items).declarations

-- The items of one kind in a list, in order; and what each declares, read from the entries of the whole list. In a good list
-- these are what the store has.

-- statement and set of each entry
abbrev pub entries_in : List Item → List Assertion
entries_in [] = []
entries_in (variable v n p ∷ items) = entries_in items
entries_in (metavariable n p ∷ items) = entries_in items
entries_in (rule n ms p ∷ items) = entries_in items
entries_in (entry e ∷ items) = record { statement = e.statement; set = e.set } ∷ entries_in items
entries_in (shown p ∷ items) = entries_in items

-- number, name and entry of each variable
abbrev pub variables_in : List Item → List (ℕ × Name × ℕ)
variables_in [] = []
variables_in (variable v n p ∷ items) = (v, n, p) ∷ variables_in items
variables_in (metavariable n p ∷ items) = variables_in items
variables_in (rule n ms p ∷ items) = variables_in items
variables_in (entry e ∷ items) = variables_in items
variables_in (shown p ∷ items) = variables_in items

-- name and entry of each metavariable
abbrev pub metavariables_in : List Item → List (Name × ℕ)
metavariables_in [] = []
metavariables_in (variable v n p ∷ items) = metavariables_in items
metavariables_in (metavariable n p ∷ items) = (n, p) ∷ metavariables_in items
metavariables_in (rule n ms p ∷ items) = metavariables_in items
metavariables_in (entry e ∷ items) = metavariables_in items
metavariables_in (shown p ∷ items) = metavariables_in items

-- name, metavariables and entry of each rule
abbrev pub rules_in : List Item → List (Name × List ℕ × ℕ)
rules_in [] = []
rules_in (variable v n p ∷ items) = rules_in items
rules_in (metavariable n p ∷ items) = rules_in items
rules_in (rule n ms p ∷ items) = (n, ms, p) ∷ rules_in items
rules_in (entry e ∷ items) = rules_in items
rules_in (shown p ∷ items) = rules_in items

-- what a variable declares, given its entry; with a dummy where there is none
abbrev pub annotated : ℕ × Name × ℕ → Option Assertion → ℕ × Annotation
annotated x None = (x.0, record { name = x.1; annotation = bound zero; set = [] })
annotated x (Some a) = (x.0, declared_variable x.1 a)

-- what a metavariable declares, given its entry; with a dummy where there is none
abbrev pub declared : Name × ℕ → Option Assertion → Declared
declared x None = record { name = x.0; boundary = plain type_goal; set = [] }
declared x (Some a) = declared_metavariable x.0 a

-- the rule that is declared, given its metavariables and its entry; a dummy where one of them is missing
abbrev pub ruled : Option (List (ℕ × Declared)) → Option Assertion → Rule
ruled None o = record { premises = []; conclusion = type_goal }
ruled (Some ds) None = record { premises = []; conclusion = type_goal }
ruled (Some ds) (Some a) = declared_rule ds a

-- Steps with what their numbers name.

-- a step with the entries, variables, metavariables and the rule that it names, each metavariable, variable and rule with its
-- number
abbrev pub Resolved : Type 0
Resolved = Justification Assertion (ℕ × Annotation) (ℕ × Declared) (ℕ × Rule)

-- f of a thing, where it is there
abbrev pub with_one : {A B : Type 0} → (A → B) → Option A → Option B
with_one f o = option_map f o

-- f of two things, where both are there
abbrev pub with_two : {A B C : Type 0} → (A → B → C) → Option A → Option B → Option C
with_two f o p = option_and_then (λ a. with_one (f a) p) o

-- f of three things, where all are there
abbrev pub with_three : {A B C D : Type 0} → (A → B → C → D) → Option A → Option B → Option C → Option D
with_three f o p q = option_and_then (λ a. with_two (f a) p q) o

-- f of four things, where all are there
abbrev pub with_four : {A B C D E : Type 0} → (A → B → C → D → E) → Option A → Option B → Option C → Option D → Option E
with_four f o p q r = option_and_then (λ a. with_three (f a) p q r) o

-- the stated step with what its numbers name; None where a number names nothing in the store
abbrev pub resolve : Store → Stated → Option Resolved
resolve W (by_var v) = with_one by_var (variable_named W.declarations v)
resolve W (by_generic m) = with_one by_generic (metavariable_named W.declarations m)
resolve W (by_meta m ps) = with_two by_meta (metavariable_named W.declarations m) (each (entry_named W) ps)
resolve W (by_metacong m es) = with_two by_metacong (metavariable_named W.declarations m) (each (entry_named W) es)
resolve W (by_abs v p) = with_two by_abs (variable_named W.declarations v) (entry_named W p)
resolve W (by_subst p t) = with_two by_subst (entry_named W p) (entry_named W t)
resolve W (by_substeq p e) = with_two by_substeq (entry_named W p) (entry_named W e)
resolve W (by_refl p) = with_one by_refl (entry_named W p)
resolve W (by_sym p) = with_one by_sym (entry_named W p)
resolve W (by_trans p q) = with_two by_trans (entry_named W p) (entry_named W q)
resolve W (by_conv p e) = with_two by_conv (entry_named W p) (entry_named W e)
resolve W (by_conveq p e) = with_two by_conveq (entry_named W p) (entry_named W e)
resolve W (by_left p) = with_one by_left (entry_named W p)
resolve W (by_right p) = with_one by_right (entry_named W p)
resolve W (by_typeof p) = with_one by_typeof (entry_named W p)
resolve W (by_domain p) = with_one by_domain (entry_named W p)
resolve W (by_boundary p) = with_one by_boundary (entry_named W p)
resolve W (by_widen p q) = with_two by_widen (entry_named W p) (entry_named W q)
resolve W by_btype = Some by_btype
resolve W (by_bterm p) = with_one by_bterm (entry_named W p)
resolve W (by_beqty p q) = with_two by_beqty (entry_named W p) (entry_named W q)
resolve W (by_beqtm p s t) = with_three by_beqtm (entry_named W p) (entry_named W s) (entry_named W t)
resolve W (by_rule r ps) = with_two by_rule (rule_named W.declarations r) (each (entry_named W) ps)
resolve W (by_rulewith r b ps) = with_three by_rulewith (rule_named W.declarations r) (entry_named W b) (each (entry_named W) ps)
resolve W (by_inst r ps) = with_two by_inst (rule_named W.declarations r) (each (entry_named W) ps)
resolve W (by_cong r ps es) = with_three by_cong (rule_named W.declarations r) (each (entry_named W) ps) (each (entry_named W) es)
resolve W (by_convprem r ps es q) = with_four by_convprem (rule_named W.declarations r) (each (entry_named W) ps) (each (entry_named W) es) (entry_named W q)
resolve W (by_convback r ps es q) = with_four by_convback (rule_named W.declarations r) (each (entry_named W) ps) (each (entry_named W) es) (entry_named W q)
resolve W (by_arg i p) = with_one (by_arg i) (entry_named W p)
resolve W (by_natural p) = with_one by_natural (entry_named W p)
resolve W (by_metainst p ms qs) = with_three by_metainst (entry_named W p) (each (metavariable_named W.declarations) ms) (each (entry_named W) qs)
