-- What a fault of a call names is in the table.
use Rattle.std.proofs.Common.{◌≡◌, ℕ, Bool, true, false, Option, Some, None, List, length, subst}
use Rattle.std.specs.Prelude.{Result, Ok, Err, IfErr, option_map}
use Rattle.ft_items.specs.Item.{Stated, Name}
use Rattle.ft_items.specs.Store.{Annotation, Declared, Declarations, declared_by, declared_variable, add_variable, add_metavariable}
use Rattle.ft_items.specs.Good.{is_plain_type}
use Rattle.ft_reference.specs.Refusals as reference
use Rattle.ft_reference.specs.Declare.{outcome, refused_unless, first_variable, next_metavariable}
use Rattle.ft_judge.specs.declared.fault.Refusal.TheVariants.{WrongForm, NotAbstracted, TypeDiffers, SidesDiffer, DependentVariable, OpenBoundary, ArgumentCount, TooBig, NotApplication}
use Rattle.ft_judge.specs.declared.fault.Fault.{Fault}
use Rattle.ft_judge.specs.declared.fault.Fault.TheVariants.{Refused, Memory}
use Rattle.ft_kernel.specs.State.{State}
use Rattle.ft_calls.specs.Answers.{difference_in, Answers}
use Rattle.ft_calls.specs.Declaring.{DeclaresVariable, DeclaresMetavariable}
use Rattle.ft_tests_nucleus.specs.Faults.{FaultBelow}

pub answers_below : (s : State) (n : Stated) (r : Result ℕ Fault) (t : State) → Answers s n r t → IfErr r (λ f. FaultBelow (length t.trees) f)
answers_below s n (Ok j) t h = tt
answers_below s n (Err (Refused r)) t h = h.1
answers_below s n (Err Memory) t h = tt

-- a refusal by its name alone
unless : (b : Bool) (W V : Declarations) (x : ℕ × Annotation) (d : reference.Differ) → ((outcome (refused_unless b reference.WrongForm) W V x).answer ≡ Err (reference.TypeDiffers d) → ⊥) × ((outcome (refused_unless b reference.WrongForm) W V x).answer ≡ Err (reference.SidesDiffer d) → ⊥)
unless true W V x d = (λ h. let clash : Ok x ≡ Err (reference.TypeDiffers d) = h in cc, λ h. let clash : Ok x ≡ Err (reference.SidesDiffer d) = h in cc)
unless false W V x d = (λ h. cc, λ h. cc)

opening : (o : Option ℕ) (W V : Declarations) (x : ℕ × Declared) (d : reference.Differ) → ((outcome (option_map reference.OpenBoundary o) W V x).answer ≡ Err (reference.TypeDiffers d) → ⊥) × ((outcome (option_map reference.OpenBoundary o) W V x).answer ≡ Err (reference.SidesDiffer d) → ⊥)
opening None W V x d = (λ h. cc, λ h. cc)
opening (Some v) W V x d = (λ h. cc, λ h. cc)

pub variable_below : (s : State) (v : ℕ) (n : Name) (p : ℕ) (r : Result ℕ Fault) (t : State) → DeclaresVariable s v n p r t → IfErr r (λ f. FaultBelow (length t.trees) f)
variable_below s v n p (Ok j) t h = tt
variable_below s v n p (Err Memory) t h = tt
variable_below s v n p (Err (Refused WrongForm)) t h = tt
variable_below s v n p (Err (Refused NotAbstracted)) t h = tt
variable_below s v n p (Err (Refused (TypeDiffers d))) t h = absurd ((unless (is_plain_type h.0.statement) (declared_by s.items) (add_variable (declared_by s.items) v n (Some h.0)) (v, declared_variable n h.0) (difference_in t.trees d)).0 h.2.0)
variable_below s v n p (Err (Refused (SidesDiffer d))) t h = absurd ((unless (is_plain_type h.0.statement) (declared_by s.items) (add_variable (declared_by s.items) v n (Some h.0)) (v, declared_variable n h.0) (difference_in t.trees d)).1 h.2.0)
variable_below s v n p (Err (Refused (DependentVariable w))) t h = tt
variable_below s v n p (Err (Refused (OpenBoundary w))) t h = tt
variable_below s v n p (Err (Refused (ArgumentCount a b))) t h = tt
variable_below s v n p (Err (Refused TooBig)) t h = tt
variable_below s v n p (Err (Refused NotApplication)) t h = tt

pub metavariable_below : (s : State) (n : Name) (p : ℕ) (r : Result ℕ Fault) (t : State) → DeclaresMetavariable s n p r t → IfErr r (λ f. FaultBelow (length t.trees) f)
metavariable_below s n p (Ok j) t h = tt
metavariable_below s n p (Err Memory) t h = tt
metavariable_below s n p (Err (Refused WrongForm)) t h = tt
metavariable_below s n p (Err (Refused NotAbstracted)) t h = tt
metavariable_below s n p (Err (Refused (TypeDiffers d))) t h = absurd ((opening (first_variable h.0.set) (declared_by s.items) (add_metavariable (declared_by s.items) n (Some h.0)) (next_metavariable (declared_by s.items) n h.0) (difference_in t.trees d)).0 h.2.0)
metavariable_below s n p (Err (Refused (SidesDiffer d))) t h = absurd ((opening (first_variable h.0.set) (declared_by s.items) (add_metavariable (declared_by s.items) n (Some h.0)) (next_metavariable (declared_by s.items) n h.0) (difference_in t.trees d)).1 h.2.0)
metavariable_below s n p (Err (Refused (DependentVariable w))) t h = tt
metavariable_below s n p (Err (Refused (OpenBoundary w))) t h = tt
metavariable_below s n p (Err (Refused (ArgumentCount a b))) t h = tt
metavariable_below s n p (Err (Refused TooBig)) t h = tt
metavariable_below s n p (Err (Refused NotApplication)) t h = tt

-- the fault of a call
pub fault_below : {A : Type 0} (n : ℕ) (r : Result A Fault) (f : Fault) → IfErr r (λ f. FaultBelow n f) → r ≡ Err f → FaultBelow n f
fault_below n r f h e = subst (λ r. IfErr r (λ f. FaultBelow n f)) e h

pub variable_fault : (s : State) (v : ℕ) (n : Name) (p : ℕ) (r : Result ℕ Fault) (t : State) (f : Fault) → DeclaresVariable s v n p r t → r ≡ Err f → FaultBelow (length t.trees) f
variable_fault s v n p r t f h e = fault_below (length t.trees) r f (variable_below s v n p r t h) e

pub metavariable_fault : (s : State) (n : Name) (p : ℕ) (r : Result ℕ Fault) (t : State) (f : Fault) → DeclaresMetavariable s n p r t → r ≡ Err f → FaultBelow (length t.trees) f
metavariable_fault s n p r t f h e = fault_below (length t.trees) r f (metavariable_below s n p r t h) e
