-- The words of the equality checker: what they answer is valid.
use Rattle.std.proofs.Common.{◌≡◌, ◌≤◌, ℕ, Bool, true, false, Some, Ok, Err, List, [], ◌∷◌, ◌++◌, refl, sym, subst}
use Rattle.ft_theory.specs.Expressions.{Expression}
use Rattle.ft_theory.specs.Statements.{Claim, is_type, has_type, equal_types, equal_terms, type_goal, term_goal, Statement, plain, fill_goal, equate_goal, IsObjectGoal}
use Rattle.ft_theory.specs.Rules.{Rule, rule_at}
use Rattle.ft_theory.specs.Steps.{Prim}
use Rattle.ft_items.specs.Equal.{is_thesis}
use Rattle.ft_items.specs.Sets.{Atom, union, Within}
use Rattle.ft_items.specs.Item.{Item, by_btype}
use Rattle.ft_items.specs.Store.{Assertion, boundaries_in, annotations_in, Derivable, Declarations, declared_by}
use Rattle.ft_items.specs.Good.{is_next}
use Rattle.ft_items.proofs.SetLemmas.{union_left, union_right}
use Rattle.ft_sound.proofs.Valid.{Valid, WellFormed, proper_union, up, sound_rules, scoped_rules}
use Rattle.ft_equality.specs.Shapes.{EqualityRules}
use Rattle.ft_equality.specs.Programs.{Spent, NotSmall, Units, Answer}
use Rattle.ft_equality.specs.Equality.{types_are_equal, terms_are_equal, normal_form}
use Rattle.ft_equality_laws.proofs.Means.{Below, If, EqualAt, NormalFact, Came}
use Rattle.ft_equality_laws.proofs.Opening.{if_map}
use Rattle.ft_equality_laws.proofs.Parts.{Flat}
use Rattle.ft_equality_laws.proofs.Normal.{AllCompute}
use Rattle.ft_equality_laws.proofs.ByType.{AllCompare}
use Rattle.ft_equality_laws.proofs.Answers.{types_answer, terms_answer, normal_answer}
use Rattle.ft_equality_laws.proofs.Accepted.{flat_of}
use Rattle.ft_equality_laws.proofs.GoodLists.{next_more, below_next, declared_in}
use Rattle.ft_reference.specs.Refusals.{WrongForm}
use Rattle.ft_meaning.specs.Stages.{Stage, equality}
use Rattle.ft_meaning.specs.Values.{Value, judgement, none, some, State, ◌>>=◌, Refused, fails, pure, settled}
use Rattle.ft_meaning.specs.Forms.{equation_if, compare, normalise}
use Rattle.ft_meaning_laws.proofs.Grows.{quiet_self, quiet_last}
use Rattle.ft_meaning_laws.proofs.Lists.{told_entry, sound_valid, AreAccepted, all_compute, all_compare}
use Rattle.ft_meaning_laws.proofs.Made.{IsThesis, IsMade, Holds, holds_last, Kept, Keeps, keeps_bind, keeps_pure, keeps_halt}
use Rattle.ft_meaning_laws.proofs.Calls.{entry_end}

came_map : {A : Type 0} (m : ℕ) (P Q : A → Type 0) (o : Answer A) → ((a : A) → P a → Q a) → Came m P o → Came m Q o
came_map m P Q (Ok a, u) f c = (f a c.0, c.1)
came_map m P Q (Err e, u) f c = c

-- Answers over declarations.
module _ (W : Declarations) (F : WellFormed W) (E : EqualityRules) (h : AreAccepted W.rules E) (u : Units) (next : is_next W.variables u.used ≡ true) where
  computing : AllCompute W.rules E.computations
  computing = all_compute W.rules E.computations h.0

  comparing : AllCompare W.rules E.extensionalities
  comparing = all_compare W.rules (sound_rules W F) E.extensionalities h.1

  flat : (s : ℕ) (R : Rule) → rule_at W.rules s ≡ Some R → Flat E s 1 R.premises
  flat = flat_of W.rules (sound_rules W F) E computing

  over : (x : Statement) (S R : List Atom) → Within S R → Valid W x S → Derivable W x R
  over x S R w v = up W (scoped_rules W F) x S R w v.derivable

  types_valid : (S R : List Atom) (A C : Expression) → Valid W (plain (is_type A)) S → Valid W (plain (is_type C)) R → Came u.used (λ b. If b (Valid W (plain (equal_types A C)) (union S R))) (types_are_equal W E A C u)
  types_valid S R A C v w =
      came_map u.used (λ b. If b Alike) (λ b. If b (Valid W (plain (equal_types A C)) (union S R))) (types_are_equal W E A C u)
      (λ b. if_map Alike (Valid W (plain (equal_types A C)) (union S R)) b (λ y. record {
        proper = proper_union W S R v.proper w.proper;
        derivable = y (annotations_in W (union S R)) (below_next W F u.used (union S R) next)
            (over (plain (is_type A)) S (union S R) (λ a m. union_left a S R m) v) (over (plain (is_type C)) R (union S R) (λ a m. union_right a S R m) w);
      }))
      (types_answer W E (sound_rules W F) (boundaries_in W (union S R)) computing comparing flat (declared_in W (union S R)) A C u)
    where
      Alike : Type 0
      Alike = EqualAt W.rules (boundaries_in W (union S R)) u.used type_goal A C

  terms_valid : (S R : List Atom) (s A t C : Expression) → Valid W (plain (has_type s A)) S → Valid W (plain (has_type t C)) R → Came u.used (λ b. If b (Valid W (plain (equal_terms s t A)) (union S R))) (terms_are_equal W E s A t C u)
  terms_valid S R s A t C v w =
      came_map u.used (λ b. If b Alike) (λ b. If b (Valid W (plain (equal_terms s t A)) (union S R))) (terms_are_equal W E s A t C u)
      (λ b. if_map Alike (Valid W (plain (equal_terms s t A)) (union S R)) b (λ y. record {
        proper = proper_union W S R v.proper w.proper;
        derivable = y (annotations_in W (union S R)) (below_next W F u.used (union S R) next)
            (over (plain (has_type s A)) S (union S R) (λ a m. union_left a S R m) v) (over (plain (has_type t C)) R (union S R) (λ a m. union_right a S R m) w);
      }))
      (terms_answer W E (sound_rules W F) (boundaries_in W (union S R)) computing comparing flat (declared_in W (union S R)) s A t C u)
    where
      At : List (ℕ × Expression) → Claim → Type 0
      At G c = Prim W.rules (boundaries_in W (union S R)) G (plain c)

      Alike : Type 0
      Alike = (G : List (ℕ × Expression)) → Below u.used G → At G (has_type s A) → At G (has_type t C) → At G (equal_terms s t A)

  normal_valid : (S : List Atom) (c : Claim) (e : Expression) → IsObjectGoal c → Valid W (plain (fill_goal c e)) S → Came u.used (λ f. Valid W (plain (equate_goal c e f)) S) (normal_form W E e u)
  normal_valid S c e o v =
      came_map u.used (NormalFact W.rules (boundaries_in W S) u.used e) (λ f. Valid W (plain (equate_goal c e f)) S) (normal_form W E e u)
      (λ f y. record { proper = v.proper; derivable = y c o (annotations_in W S) (below_next W F u.used S next) v.derivable })
      (normal_answer W E (sound_rules W F) (boundaries_in W S) computing comparing flat (declared_in W S) e u)

-- Answers in a run.
module _ (B : Stage) (built : B equality ≡ true) (items : List Item) (at : ℕ) where
  -- what a thesis of this form says
  says : (j : Assertion) (x : Statement) → IsThesis items j → j.statement ≡ x → (s : State) → Holds B items s → Valid (declared_by items) x j.set
  says j x p e s h = subst (λ z. Valid (declared_by items) z j.set) e (h.list.well.entries p.0.0 j p.0.1)

  keeps_settled : (A : Type 0) (P : List Item → A → Type 0) (f : State → Answer A) → ((s : State) → Holds B items s → Came s.units.used (P items) (f s)) → Keeps B A P items (λ s. settled at s (f s))
  keeps_settled A P f c s h = go (f s) (c s h)
    where
      after : (u : Units) → s.units.used ≤ u.used → Holds B items (record s { units = u })
      after u le = record { list = h.list; equality = h.equality; declarations = h.declarations; next = next_more (declared_by items).variables s.units.used u.used le h.next }

      go : (o : Answer A) → Came s.units.used (P items) o → Kept B A P items (settled at s o)
      go (Ok a, u) k = record { later = items; quiet = quiet_self items; holds = after u k.1; gives = k.0 }
      go (Err Spent, u) k = record { later = items; quiet = quiet_self items; holds = after u k; gives = tt }
      go (Err NotSmall, u) k = record { later = items; quiet = quiet_self items; holds = after u k; gives = tt }

  -- what is valid may be an entry
  keeps_valid : (xs : List Item) (a : Assertion) (v : Value) → Valid (declared_by xs) a.statement a.set → is_thesis a.statement ≡ true → ((later : List Item) → IsThesis later a → IsMade later v) → Keeps B Value IsMade xs (pure v)
  keeps_valid xs a v p t f s h = record {
    later = xs ++ (told_entry a ∷ []);
    quiet = quiet_last xs (told_entry a) refl;
    holds = holds_last B xs (told_entry a) s s h (sound_valid B xs a built h.list p) refl h.declarations h.next;
    gives = f (xs ++ (told_entry a ∷ [])) (entry_end xs a by_btype, t);
  }

  -- the equation, or none
  keeps_answer : (f : State → Answer Bool) (x : Statement) (j k : Assertion) → is_thesis x ≡ true → ((s : State) → Holds B items s → Came s.units.used (λ b. If b (Valid (declared_by items) x (union j.set k.set))) (f s))
      → Keeps B Value IsMade items ((λ s. settled at s (f s)) >>= λ b. pure (equation_if b x j k))
  keeps_answer f x j k t c = keeps_bind B Bool Value (λ later b. If b (Valid (declared_by later) x (union j.set k.set))) IsMade items (λ s. settled at s (f s)) (λ b. pure (equation_if b x j k))
      (keeps_settled Bool (λ later b. If b (Valid (declared_by later) x (union j.set k.set))) f c) (λ xs q b. go xs b)
    where
      go : (xs : List Item) (b : Bool) → If b (Valid (declared_by xs) x (union j.set k.set)) → Keeps B Value IsMade xs (pure (equation_if b x j k))
      go xs true v = keeps_valid xs (record { statement = x; set = union j.set k.set }) (some (judgement (record { statement = x; set = union j.set k.set }))) v t (λ later m. m)
      go xs false v = keeps_pure B Value IsMade xs none tt

  -- the equation with the normal form
  keeps_form : (f : State → Answer Expression) (x : Expression → Statement) (S : List Atom) → ((N : Expression) → is_thesis (x N) ≡ true) → ((s : State) → Holds B items s → Came s.units.used (λ N. Valid (declared_by items) (x N) S) (f s))
      → Keeps B Value IsMade items ((λ s. settled at s (f s)) >>= λ N. pure (judgement (record { statement = x N; set = S })))
  keeps_form f x S t c = keeps_bind B Expression Value (λ later N. Valid (declared_by later) (x N) S) IsMade items (λ s. settled at s (f s)) (λ N. pure (judgement (record { statement = x N; set = S })))
      (keeps_settled Expression (λ later N. Valid (declared_by later) (x N) S) f c)
      (λ xs q N v. keeps_valid xs (record { statement = x N; set = S }) (judgement (record { statement = x N; set = S })) v (t N) (λ later m. m))

  pub keeps_compare : (j k : Assertion) (x y : Statement) → IsThesis items j → IsThesis items k → j.statement ≡ x → k.statement ≡ y → Keeps B Value IsMade items (compare at j k x y)
  keeps_compare j k (plain (is_type A)) (plain (is_type C)) p q e f = keeps_answer (λ s. types_are_equal s.declarations s.equality_rules A C s.units) (plain (equal_types A C)) j k refl
      (λ s h. subst (λ z. Came s.units.used (λ b. If b (Valid (declared_by items) (plain (equal_types A C)) (union j.set k.set))) (types_are_equal z s.equality_rules A C s.units)) (sym h.declarations)
      (types_valid (declared_by items) h.list.well.declarations s.equality_rules h.equality s.units h.next j.set k.set A C (says j (plain (is_type A)) p e s h) (says k (plain (is_type C)) q f s h)))
  keeps_compare j k (plain (has_type t A)) (plain (has_type u C)) p q e f = keeps_answer (λ s. terms_are_equal s.declarations s.equality_rules t A u C s.units) (plain (equal_terms t u A)) j k refl
      (λ s h. subst (λ z. Came s.units.used (λ b. If b (Valid (declared_by items) (plain (equal_terms t u A)) (union j.set k.set))) (terms_are_equal z s.equality_rules t A u C s.units)) (sym h.declarations)
      (terms_valid (declared_by items) h.list.well.declarations s.equality_rules h.equality s.units h.next j.set k.set t A u C (says j (plain (has_type t A)) p e s h) (says k (plain (has_type u C)) q f s h)))
  keeps_compare j k x y p q e f = keeps_halt B Value IsMade items (fails (Refused WrongForm) at)

  pub keeps_normalise : (j : Assertion) (x : Statement) → IsThesis items j → j.statement ≡ x → Keeps B Value IsMade items (normalise at j x)
  keeps_normalise j (plain (is_type A)) p e = keeps_form (λ s. normal_form s.declarations s.equality_rules A s.units) (λ N. plain (equal_types A N)) j.set (λ N. refl)
      (λ s h. subst (λ z. Came s.units.used (λ N. Valid (declared_by items) (plain (equal_types A N)) j.set) (normal_form z s.equality_rules A s.units)) (sym h.declarations)
      (normal_valid (declared_by items) h.list.well.declarations s.equality_rules h.equality s.units h.next j.set type_goal A tt (says j (plain (is_type A)) p e s h)))
  keeps_normalise j (plain (has_type t A)) p e = keeps_form (λ s. normal_form s.declarations s.equality_rules t s.units) (λ u. plain (equal_terms t u A)) j.set (λ u. refl)
      (λ s h. subst (λ z. Came s.units.used (λ u. Valid (declared_by items) (plain (equal_terms t u A)) j.set) (normal_form z s.equality_rules t s.units)) (sym h.declarations)
      (normal_valid (declared_by items) h.list.well.declarations s.equality_rules h.equality s.units h.next j.set (term_goal A) t tt (says j (plain (has_type t A)) p e s h)))
  keeps_normalise j x p e = keeps_halt B Value IsMade items (fails (Refused WrongForm) at)
