-- What calls of metavariables answer, by what their parts formed.
use Rattle.std.proofs.Common.{◌≡◌, ℕ, ◌<◌, true, ◌&&◌, Some, List, length, sym, ap, ap₂, subst}
use Rattle.std.specs.Prelude.{Ok, Err}
use Rattle.ft_theory.specs.Statements.{Statement}
use Rattle.ft_items.specs.Sets.{Atom}
use Rattle.ft_items.specs.Item.{Stated, by_generic, by_meta, by_metacong}
use Rattle.ft_items.specs.Store.{Resolved, resolve, with_one, with_two, metavariables_in}
use Rattle.ft_items.specs.Rows.{conclusion, result_set}
use Rattle.ft_items.specs.Good.{Good, of_kind}
use Rattle.ft_reference.specs.Checks.{checks}
use Rattle.ft_judge.specs.declared.fault.Fault.{Fault}
use Rattle.ft_judge.specs.declared.fault.Fault.TheVariants.{Refused, Memory}
use Rattle.ft_kernel.specs.State.{State}
use Rattle.ft_calls.specs.Answers.{IsAnswer, Answers, Stays}
use Rattle.ft_calls.specs.Forming.{Gives}
use Rattle.ft_calls.proofs.Answering.{store, declarations, rests, answered_ok, refused}
use Rattle.ft_calls.proofs.Later.{answer_before}
use Rattle.ft_metas.specs.Named.{entries_of, declared_of, AreThesesOf}
use Rattle.ft_metas.specs.Outcomes.{Stops}
use Rattle.ft_metas.proofs.Naming.{each_named, theses_of}
use Rattle.ft_metas.proofs.Declared.{metavariable_is}

-- what is formed is answered, over the list as it was
pub formed_answered : (s t : State) (n : Stated) (r : Resolved) (x : Statement) (S : List Atom) → Stays s t → resolve (store s) n ≡ Some r → of_kind r ≡ true → Gives (checks (declarations s) r) (conclusion (declarations s) r) x → S ≡ result_set r
    → IsAnswer t n (Ok (rests x S))
formed_answered s t n r x S k e o g u =
    answer_before s t n (Ok (rests x S)) k.0 (subst (λ S. IsAnswer s n (Ok (rests x S))) (sym u) (answered_ok s n r x e o g))

-- a fault of the parts is the call's
pub formed_fault : (s t : State) (n : Stated) (r : Resolved) (f : Fault) → resolve (store s) n ≡ Some r → Stops t.trees (checks (declarations s) r) f → Stays s t → Answers s n (Err f) t
formed_fault s t n r (Refused q) e h k = refused s t n r q e h k
formed_fault s t n r Memory e h k = k

-- the steps with what they name
pub generic_step : (s : State) (m : ℕ) → Good s.items → m < length (metavariables_in s.items) → resolve (store s) (by_generic m) ≡ Some (by_generic (m, declared_of s.items m))
generic_step s m g l = ap (with_one by_generic) (metavariable_is s.items m g l)

pub meta_step : (s : State) (m : ℕ) (js : List ℕ) → Good s.items → m < length (metavariables_in s.items) → AreThesesOf s js → resolve (store s) (by_meta m js) ≡ Some (by_meta (m, declared_of s.items m) (entries_of s.items js))
meta_step s m js g l a = ap₂ (λ o os. with_two by_meta o os) (metavariable_is s.items m g l) (each_named s js a)

pub congruence_step : (s : State) (m : ℕ) (js : List ℕ) → Good s.items → m < length (metavariables_in s.items) → AreThesesOf s js → resolve (store s) (by_metacong m js) ≡ Some (by_metacong (m, declared_of s.items m) (entries_of s.items js))
congruence_step s m js g l a = ap₂ (λ o os. with_two by_metacong o os) (metavariable_is s.items m g l) (each_named s js a)

pub meta_kind : (s : State) (m : ℕ) (js : List ℕ) → AreThesesOf s js → of_kind (by_meta (m, declared_of s.items m) (entries_of s.items js)) ≡ true
meta_kind s m js a = ap (λ b. b && true) (theses_of s js a)

pub congruence_kind : (s : State) (m : ℕ) (js : List ℕ) → AreThesesOf s js → of_kind (by_metacong (m, declared_of s.items m) (entries_of s.items js)) ≡ true
congruence_kind s m js a = ap (λ b. b && true) (theses_of s js a)
