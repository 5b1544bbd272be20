-- Each step that an entry may state is sound.
use Rattle.std.proofs.Common.{◌≡◌, ℕ, not, Option, Some, None, List, [], ◌∷◌, refl, subst}
use Rattle.std.specs.Prelude.{option_map, option_and_then}
use Rattle.std.proofs.lemmas.Option.{same_Some}
use Rattle.std.proofs.lemmas.Bool.{not-true}
use Rattle.ft_common.proofs.Options.{none_some}
use Rattle.ft_theory.specs.Statements.{Statement, abstracted, close_statement}
use Rattle.ft_theory.specs.Rules.{look_up, Rule, rule_at}
use Rattle.ft_theory.specs.Steps.{sequents, Step, Trees, Prim}
use Rattle.ft_laws.proofs.Steps.{do_for_type}
use Rattle.ft_items.specs.Sets.{Atom, union, unions, Within}
use Rattle.ft_items.specs.Item.{by_var, by_generic, by_meta, by_metacong, by_abs, by_subst, by_substeq, by_refl, by_sym, by_trans, by_conv, by_conveq, by_left, by_right, by_typeof, by_domain, by_boundary, by_widen, by_btype, by_bterm, by_beqty, by_beqtm, by_rule, by_rulewith, by_inst, by_cong, by_convprem, by_convback, by_arg, by_natural, by_metainst, Stated}
use Rattle.ft_items.specs.Store.{Assertion, Annotation, Declared, Store, nth, each, entry_named, variable_named, metavariable_named, rule_named, Resolved, with_one, with_two, with_three, with_four, resolve, boundaries_in, annotations_in, Derivable, Declarations}
use Rattle.ft_items.specs.Rows.{statements, sets, conclusion, result_set}
use Rattle.ft_items.specs.Rows as row
use Rattle.ft_items.proofs.SetLemmas.{union_left, union_right}
use Rattle.ft_sound.proofs.Valid.{Valid, AllValid, WellFormed, WellFormedStore, sound_rules, scoped_rules, proper_empty, proper_union, proper_unions, up, up_all}
use Rattle.ft_sound.proofs.Structural as structural
use Rattle.ft_sound.proofs.Structural.{from_when}
use Rattle.ft_sound.proofs.RuleRows as rules
use Rattle.ft_sound.proofs.MetaRows as metas
use Rattle.ft_sound.proofs.InstanceRows.{AllDeclared}
use Rattle.ft_sound.proofs.InstanceRows as instances

-- what a step names is valid, declared, or a rule of the theory
abbrev pub IsVariable : Declarations → ℕ × Annotation → Type 0
IsVariable W v = look_up W.variables v.0 ≡ Some v.1

abbrev pub IsMetavariable : Declarations → ℕ × Declared → Type 0
IsMetavariable W m = nth W.metavariables m.0 ≡ Some m.1

abbrev pub IsRule : Declarations → ℕ × Rule → Type 0
IsRule W r = rule_at W.rules r.0 ≡ Some r.1

abbrev pub IsValid : Declarations → Assertion → Type 0
IsValid W p = Valid W p.statement p.set

abbrev pub Parts : (W : Declarations) → WellFormed W → Resolved → Type 0
Parts W F (by_var v) = IsVariable W v
Parts W F (by_generic m) = IsMetavariable W m
Parts W F (by_meta m ps) = IsMetavariable W m × AllValid W ps
Parts W F (by_metacong m es) = IsMetavariable W m × AllValid W es
Parts W F (by_abs v p) = IsVariable W v × IsValid W p
Parts W F (by_subst p t) = IsValid W p × IsValid W t
Parts W F (by_substeq p e) = IsValid W p × IsValid W e
Parts W F (by_refl p) = IsValid W p
Parts W F (by_sym p) = IsValid W p
Parts W F (by_trans p q) = IsValid W p × IsValid W q
Parts W F (by_conv p e) = IsValid W p × IsValid W e
Parts W F (by_conveq p e) = IsValid W p × IsValid W e
Parts W F (by_left p) = IsValid W p
Parts W F (by_right p) = IsValid W p
Parts W F (by_typeof p) = IsValid W p
Parts W F (by_domain p) = IsValid W p
Parts W F (by_boundary p) = IsValid W p
Parts W F (by_widen p q) = IsValid W p × IsValid W q
Parts W F by_btype = Unit {0}
Parts W F (by_bterm p) = IsValid W p
Parts W F (by_beqty p q) = IsValid W p × IsValid W q
Parts W F (by_beqtm p s t) = IsValid W p × IsValid W s × IsValid W t
Parts W F (by_rule r ps) = IsRule W r × AllValid W ps
Parts W F (by_rulewith r b ps) = IsRule W r × IsValid W b × AllValid W ps
Parts W F (by_inst r ps) = IsRule W r × AllValid W ps
Parts W F (by_cong r ps es) = IsRule W r × AllValid W ps × AllValid W es
Parts W F (by_convprem r ps es q) = IsRule W r × AllValid W ps × AllValid W es × IsValid W q
Parts W F (by_convback r ps es q) = IsRule W r × AllValid W ps × AllValid W es × IsValid W q
Parts W F (by_arg i p) = IsValid W p
Parts W F (by_natural p) = IsValid W p
Parts W F (by_metainst p ms qs) = IsValid W p × AllDeclared W F ms × AllValid W qs

-- what was resolved
some_1 : {A B : Type 0} (P : B → Type 0) (f : A → B) (o : Option A) (s : B) → with_one f o ≡ Some s → ((a : A) → o ≡ Some a → P (f a)) → P s
some_1 P f None s e h = none_some e
some_1 P f (Some a) s e h = subst P (inner e) (h a refl)
  where
    inner : Some (f a) ≡ Some s → f a ≡ s
    inner e = cc

some_2 : {A B C : Type 0} (P : C → Type 0) (f : A → B → C) (o : Option A) (p : Option B) (s : C) → with_two f o p ≡ Some s → ((a : A) → o ≡ Some a → (b : B) → p ≡ Some b → P (f a b)) → P s
some_2 P f None p s e h = none_some e
some_2 P f (Some a) p s e h = some_1 P (f a) p s e (h a refl)

some_3 : {A B C D : Type 0} (P : D → Type 0) (f : A → B → C → D) (o : Option A) (p : Option B) (q : Option C) (s : D) → with_three f o p q ≡ Some s
    → ((a : A) → o ≡ Some a → (b : B) → p ≡ Some b → (c : C) → q ≡ Some c → P (f a b c)) → P s
some_3 P f None p q s e h = none_some e
some_3 P f (Some a) p q s e h = some_2 P (f a) p q s e (h a refl)

some_4 : {A B C D E : Type 0} (P : E → Type 0) (f : A → B → C → D → E) (o : Option A) (p : Option B) (q : Option C) (r : Option D) (s : E) → with_four f o p q r ≡ Some s
    → ((a : A) → o ≡ Some a → (b : B) → p ≡ Some b → (c : C) → q ≡ Some c → (d : D) → r ≡ Some d → P (f a b c d)) → P s
some_4 P f None p q r s e h = none_some e
some_4 P f (Some a) p q r s e h = some_3 P (f a) p q r s e (h a refl)

module _ (W : Declarations) where
  is_variable : (v : ℕ) (a : ℕ × Annotation) → variable_named W v ≡ Some a → IsVariable W a
  is_variable v a e = go (look_up W.variables v) refl e
    where
      go : (o : Option Annotation) → look_up W.variables v ≡ o → option_map (λ d. (v, d)) o ≡ Some a → IsVariable W a
      go None q e = none_some e
      go (Some d) q e = subst (IsVariable W) (same_Some (v, d) a e) q

  is_metavariable : (m : ℕ) (a : ℕ × Declared) → metavariable_named W m ≡ Some a → IsMetavariable W a
  is_metavariable m a e = go (nth W.metavariables m) refl e
    where
      go : (o : Option Declared) → nth W.metavariables m ≡ o → option_map (λ d. (m, d)) o ≡ Some a → IsMetavariable W a
      go None q e = none_some e
      go (Some d) q e = subst (IsMetavariable W) (same_Some (m, d) a e) q

  is_rule : (r : ℕ) (a : ℕ × Rule) → rule_named W r ≡ Some a → IsRule W a
  is_rule r a e = go (rule_at W.rules r) refl e
    where
      go : (o : Option Rule) → rule_at W.rules r ≡ o → option_map (λ R. (r, R)) o ≡ Some a → IsRule W a
      go None q e = none_some e
      go (Some R) q e = subst (IsRule W) (same_Some (r, R) a e) q

module _ (W : Declarations) (F : WellFormed W) where
  pub all_declared : (ms : List ℕ) (ds : List (ℕ × Declared)) → each (metavariable_named W) ms ≡ Some ds → AllDeclared W F ds
  all_declared [] ds e = subst (AllDeclared W F) (same_Some [] ds e) tt
  all_declared (m ∷ ms) ds e = go (metavariable_named W m) refl (each (metavariable_named W) ms) e (all_declared ms)
    where
      go : (o : Option (ℕ × Declared)) → metavariable_named W m ≡ o → (os : Option (List (ℕ × Declared))) → option_and_then (λ b. option_map (λ bs. b ∷ bs) os) o ≡ Some ds → ((bs : List (ℕ × Declared)) → os ≡ Some bs → AllDeclared W F bs) → AllDeclared W F ds
      go None q os e ih = none_some e
      go (Some a) q None e ih = none_some e
      go (Some a) q (Some bs) e ih = subst (AllDeclared W F) (same_Some (a ∷ bs) ds e) (is_metavariable W m a q, ih bs refl)

module _ (W : Store) (F : WellFormedStore W) where
  abbrev D : Declarations
  D = W.declarations

  all_valid : (ps : List ℕ) (as' : List Assertion) → each (entry_named W) ps ≡ Some as' → AllValid D as'
  all_valid [] as' e = subst (AllValid D) (same_Some [] as' e) tt
  all_valid (p ∷ ps) as' e = go (entry_named W p) refl (each (entry_named W) ps) e (all_valid ps)
    where
      go : (o : Option Assertion) → entry_named W p ≡ o → (os : Option (List Assertion)) → option_and_then (λ b. option_map (λ bs. b ∷ bs) os) o ≡ Some as' → ((bs : List Assertion) → os ≡ Some bs → AllValid D bs) → AllValid D as'
      go None q os e ih = none_some e
      go (Some a) q None e ih = none_some e
      go (Some a) q (Some bs) e ih = subst (AllValid D) (same_Some (a ∷ bs) as' e) (F.entries p a q, ih bs refl)

  abbrev N : ℕ → Option Assertion
  N p = entry_named W p

  abbrev Ns : List ℕ → Option (List Assertion)
  Ns ps = each (entry_named W) ps

  abbrev P : Resolved → Type 0
  P s = Parts D F.declarations s

  pub resolved : (s : Stated) (r : Resolved) → resolve W s ≡ Some r → Parts D F.declarations r
  resolved (by_var v) r e = some_1 P by_var (variable_named D v) r e (λ a i. is_variable D v a i)
  resolved (by_generic m) r e = some_1 P by_generic (metavariable_named D m) r e (λ a i. is_metavariable D m a i)
  resolved (by_meta m ps) r e = some_2 P by_meta (metavariable_named D m) (Ns ps) r e (λ a i b j. (is_metavariable D m a i, all_valid ps b j))
  resolved (by_metacong m ps) r e = some_2 P by_metacong (metavariable_named D m) (Ns ps) r e (λ a i b j. (is_metavariable D m a i, all_valid ps b j))
  resolved (by_abs v p) r e = some_2 P by_abs (variable_named D v) (N p) r e (λ a i b j. (is_variable D v a i, F.entries p b j))
  resolved (by_subst p q) r e = some_2 P by_subst (N p) (N q) r e (λ a i b j. (F.entries p a i, F.entries q b j))
  resolved (by_substeq p q) r e = some_2 P by_substeq (N p) (N q) r e (λ a i b j. (F.entries p a i, F.entries q b j))
  resolved (by_refl p) r e = some_1 P by_refl (N p) r e (F.entries p)
  resolved (by_sym p) r e = some_1 P by_sym (N p) r e (F.entries p)
  resolved (by_trans p q) r e = some_2 P by_trans (N p) (N q) r e (λ a i b j. (F.entries p a i, F.entries q b j))
  resolved (by_conv p q) r e = some_2 P by_conv (N p) (N q) r e (λ a i b j. (F.entries p a i, F.entries q b j))
  resolved (by_conveq p q) r e = some_2 P by_conveq (N p) (N q) r e (λ a i b j. (F.entries p a i, F.entries q b j))
  resolved (by_left p) r e = some_1 P by_left (N p) r e (F.entries p)
  resolved (by_right p) r e = some_1 P by_right (N p) r e (F.entries p)
  resolved (by_typeof p) r e = some_1 P by_typeof (N p) r e (F.entries p)
  resolved (by_domain p) r e = some_1 P by_domain (N p) r e (F.entries p)
  resolved (by_boundary p) r e = some_1 P by_boundary (N p) r e (F.entries p)
  resolved (by_widen p q) r e = some_2 P by_widen (N p) (N q) r e (λ a i b j. (F.entries p a i, F.entries q b j))
  resolved by_btype r e = subst P (same_Some by_btype r e) tt
  resolved (by_bterm p) r e = some_1 P by_bterm (N p) r e (F.entries p)
  resolved (by_beqty p q) r e = some_2 P by_beqty (N p) (N q) r e (λ a i b j. (F.entries p a i, F.entries q b j))
  resolved (by_beqtm p q t) r e = some_3 P by_beqtm (N p) (N q) (N t) r e (λ a i b j c k. (F.entries p a i, F.entries q b j, F.entries t c k))
  resolved (by_rule n ps) r e = some_2 P by_rule (rule_named D n) (Ns ps) r e (λ a i b j. (is_rule D n a i, all_valid ps b j))
  resolved (by_rulewith n p ps) r e = some_3 P by_rulewith (rule_named D n) (N p) (Ns ps) r e (λ a i b j c k. (is_rule D n a i, F.entries p b j, all_valid ps c k))
  resolved (by_inst n ps) r e = some_2 P by_inst (rule_named D n) (Ns ps) r e (λ a i b j. (is_rule D n a i, all_valid ps b j))
  resolved (by_cong n ps es) r e = some_3 P by_cong (rule_named D n) (Ns ps) (Ns es) r e (λ a i b j c k. (is_rule D n a i, all_valid ps b j, all_valid es c k))
  resolved (by_convprem n ps es q) r e = some_4 P by_convprem (rule_named D n) (Ns ps) (Ns es) (N q) r e (λ a i b j c k d l. (is_rule D n a i, all_valid ps b j, all_valid es c k, F.entries q d l))
  resolved (by_convback n ps es q) r e = some_4 P by_convback (rule_named D n) (Ns ps) (Ns es) (N q) r e (λ a i b j c k d l. (is_rule D n a i, all_valid ps b j, all_valid es c k, F.entries q d l))
  resolved (by_arg i p) r e = some_1 P (by_arg i) (N p) r e (F.entries p)
  resolved (by_natural p) r e = some_1 P by_natural (N p) r e (F.entries p)
  resolved (by_metainst p ms qs) r e = some_3 P by_metainst (N p) (each (metavariable_named D) ms) (Ns qs) r e (λ a i b j c k. (F.entries p a i, all_declared D F.declarations ms b j, all_valid qs c k))

module _ (W : Declarations) (F : WellFormed W) where
  abbrev M : List Atom → List (ℕ × Statement)
  M S = boundaries_in W S

  abbrev G : List Atom → List (ℕ × Rattle.ft_theory.specs.Expressions.Expression)
  G S = annotations_in W S

  -- one premise, two premises, each over the union of the sets
  one : (x y : Statement) (S : List Atom) → Valid W x S → (Derivable W x S → Derivable W y S) → Valid W y S
  one x y S v h = record { proper = v.proper; derivable = h v.derivable }

  two : (x z y : Statement) (S R : List Atom) → Valid W x S → Valid W z R → (Derivable W x (union S R) → Derivable W z (union S R) → Derivable W y (union S R)) → Valid W y (union S R)
  two x z y S R v w h = record {
    proper = proper_union W S R v.proper w.proper;
    derivable = h (up W (scoped_rules W F) x S (union S R) (λ a k. union_left a S R k) v.derivable) (up W (scoped_rules W F) z R (union S R) (λ a k. union_right a S R k) w.derivable);
  }

  list : (ps : List Assertion) (R : List Atom) → AllValid W ps → Within (unions (sets ps)) R → Trees (Step W.rules) (sequents (M R) (G R) (statements ps))
  list ps R vs w = up_all W (scoped_rules W F) ps R w vs

  pub sound_step : (r : Resolved) → Parts W F r → (y : Statement) → conclusion W r ≡ Some y → Valid W y (result_set r)
  sound_step (by_var v) h y e = subst (λ z. Valid W z (result_set (by_var v))) (same_Some _ y e) (metas.do_var W F v.0 v.1 h)
  sound_step (by_generic m) h y e = subst (λ z. Valid W z (result_set (by_generic m))) (same_Some _ y e) (metas.do_generic W F m.0 m.1 h)
  sound_step (by_meta m ps) h y e = metas.do_meta W F m.0 m.1 h.0 ps h.1 y e
  sound_step (by_metacong m es) h y e = metas.do_meta_congruence W F m.0 m.1 h.0 es h.1 y e
  sound_step (by_abs v p) h y e = from_when (λ z. Valid W z (result_set (by_abs v p))) (not (row.depends W.variables v.0 p.set)) (abstracted v.1.annotation (close_statement v.0 p.statement)) y e (λ t.
      record {
        proper = metas.do_abs_proper W F v.0 v.1 p.set h.0 (not-true (row.depends W.variables v.0 p.set) t) h.1.proper;
        derivable = metas.do_abs W F v.0 v.1 p.statement p.set h.0 (not-true (row.depends W.variables v.0 p.set) t) h.1.derivable;
      })
  sound_step (by_subst p t) h y e = two p.statement t.statement y p.set t.set h.0 h.1 (λ a b. structural.do_substitution W.rules (sound_rules W F) (M (union p.set t.set)) (G (union p.set t.set)) p.statement t.statement y e a b)
  sound_step (by_substeq p t) h y e = two p.statement t.statement y p.set t.set h.0 h.1 (λ a b. structural.do_equal_substitution W.rules (sound_rules W F) (M (union p.set t.set)) (G (union p.set t.set)) p.statement t.statement y e a b)
  sound_step (by_refl p) h y e = one p.statement y p.set h (structural.do_reflexivity W.rules (sound_rules W F) (M p.set) (G p.set) p.statement y e)
  sound_step (by_sym p) h y e = one p.statement y p.set h (structural.do_symmetry W.rules (sound_rules W F) (M p.set) (G p.set) p.statement y e)
  sound_step (by_trans p t) h y e = two p.statement t.statement y p.set t.set h.0 h.1 (λ a b. structural.do_transitivity W.rules (sound_rules W F) (M (union p.set t.set)) (G (union p.set t.set)) p.statement t.statement y e a b)
  sound_step (by_conv p t) h y e = two p.statement t.statement y p.set t.set h.0 h.1 (λ a b. structural.do_conversion W.rules (sound_rules W F) (M (union p.set t.set)) (G (union p.set t.set)) p.statement t.statement y e a b)
  sound_step (by_conveq p t) h y e = two p.statement t.statement y p.set t.set h.0 h.1 (λ a b. structural.do_equation_conversion W.rules (sound_rules W F) (M (union p.set t.set)) (G (union p.set t.set)) p.statement t.statement y e a b)
  sound_step (by_left p) h y e = one p.statement y p.set h (structural.do_left W.rules (sound_rules W F) (M p.set) (G p.set) p.statement y e)
  sound_step (by_right p) h y e = one p.statement y p.set h (structural.do_right W.rules (sound_rules W F) (M p.set) (G p.set) p.statement y e)
  sound_step (by_typeof p) h y e = one p.statement y p.set h (structural.do_typeof W.rules (sound_rules W F) (M p.set) (G p.set) p.statement y e)
  sound_step (by_domain p) h y e = one p.statement y p.set h (structural.do_domain W.rules (sound_rules W F) (M p.set) (G p.set) p.statement y e)
  sound_step (by_boundary p) h y e = one p.statement y p.set h (λ a. subst (λ z. Derivable W z p.set) (same_Some _ y e) (structural.do_boundary W.rules (sound_rules W F) (M p.set) (G p.set) p.statement a))
  sound_step (by_widen p t) h y e = two p.statement t.statement y p.set t.set h.0 h.1 (λ a b. subst (λ z. Derivable W z (union p.set t.set)) (same_Some p.statement y e) a)
  sound_step by_btype h y e = subst (λ z. Valid W z []) (same_Some _ y e) (record { proper = proper_empty W; derivable = do_for_type })
  sound_step (by_bterm p) h y e = one p.statement y p.set h (structural.do_term_boundary W.rules (sound_rules W F) (M p.set) (G p.set) p.statement y e)
  sound_step (by_beqty p t) h y e = two p.statement t.statement y p.set t.set h.0 h.1 (λ a b. structural.do_type_equation_boundary W.rules (sound_rules W F) (M (union p.set t.set)) (G (union p.set t.set)) p.statement t.statement y e a b)
  sound_step (by_beqtm p s t) h y e =
      let U : List Atom = union s.set t.set in
      let R : List Atom = union p.set U in
      record {
        proper = proper_union W p.set U h.0.proper (proper_union W s.set t.set h.1.proper h.2.proper);
        derivable = structural.do_term_equation_boundary W.rules (sound_rules W F) (M R) (G R) p.statement s.statement t.statement y e
            (up W (scoped_rules W F) p.statement p.set R (λ a k. union_left a p.set U k) h.0.derivable)
            (up W (scoped_rules W F) s.statement s.set R (λ a k. union_right a p.set U (union_left a s.set t.set k)) h.1.derivable)
            (up W (scoped_rules W F) t.statement t.set R (λ a k. union_right a p.set U (union_right a s.set t.set k)) h.2.derivable);
      }
  sound_step (by_rule r ps) h y e = record {
    proper = proper_unions W ps h.1;
    derivable = rules.do_rule W.rules (sound_rules W F) (M (unions (sets ps))) (G (unions (sets ps))) r.0 r.1 h.0 (statements ps) y e (list ps (unions (sets ps)) h.1 (λ a k. k));
  }
  sound_step (by_rulewith r b ps) h y e = record {
    proper = proper_union W b.set (unions (sets ps)) h.1.proper (proper_unions W ps h.2);
    derivable = rules.do_rule_with W.rules (sound_rules W F) (M (union b.set (unions (sets ps)))) (G (union b.set (unions (sets ps)))) r.0 r.1 h.0 b.statement (statements ps) y e
        (list ps (union b.set (unions (sets ps))) h.2 (λ a k. union_right a b.set (unions (sets ps)) k));
  }
  sound_step (by_inst r ps) h y e = record {
    proper = proper_unions W ps h.1;
    derivable = rules.do_boundary_instance W.rules (sound_rules W F) (M (unions (sets ps))) (G (unions (sets ps))) r.0 r.1 h.0 (statements ps) y e (list ps (unions (sets ps)) h.1 (λ a k. k));
  }
  sound_step (by_cong r ps es) h y e =
      let S : List Atom = unions (sets ps) in
      let U : List Atom = unions (sets es) in
      record {
        proper = proper_union W S U (proper_unions W ps h.1) (proper_unions W es h.2);
        derivable = rules.do_congruence W.rules (sound_rules W F) (M (union S U)) (G (union S U)) r.0 r.1 h.0 (statements ps) (statements es) y e
            (list ps (union S U) h.1 (λ a k. union_left a S U k)) (list es (union S U) h.2 (λ a k. union_right a S U k));
      }
  sound_step (by_convprem r ps es q) h y e =
      let S : List Atom = unions (sets ps) in
      let U : List Atom = unions (sets es) in
      let R : List Atom = union S (union U q.set) in
      record {
        proper = proper_union W S (union U q.set) (proper_unions W ps h.1) (proper_union W U q.set (proper_unions W es h.2) h.3.proper);
        derivable = rules.do_premise_conversion W.rules (sound_rules W F) (M R) (G R) r.0 r.1 h.0 (statements ps) (statements es) q.statement y e
            (list ps R h.1 (λ a k. union_left a S (union U q.set) k)) (list es R h.2 (λ a k. union_right a S (union U q.set) (union_left a U q.set k)))
            (up W (scoped_rules W F) q.statement q.set R (λ a k. union_right a S (union U q.set) (union_right a U q.set k)) h.3.derivable);
      }
  sound_step (by_convback r ps es q) h y e =
      let S : List Atom = unions (sets ps) in
      let U : List Atom = unions (sets es) in
      let R : List Atom = union S (union U q.set) in
      record {
        proper = proper_union W S (union U q.set) (proper_unions W ps h.1) (proper_union W U q.set (proper_unions W es h.2) h.3.proper);
        derivable = rules.do_premise_conversion_back W.rules (sound_rules W F) (M R) (G R) r.0 r.1 h.0 (statements ps) (statements es) q.statement y e
            (list ps R h.1 (λ a k. union_left a S (union U q.set) k)) (list es R h.2 (λ a k. union_right a S (union U q.set) (union_left a U q.set k)))
            (up W (scoped_rules W F) q.statement q.set R (λ a k. union_right a S (union U q.set) (union_right a U q.set k)) h.3.derivable);
      }
  sound_step (by_arg i p) h y e = one p.statement y p.set h (instances.do_argument W F i p.statement y p.set e)
  sound_step (by_natural p) h y e = one p.statement y p.set h (instances.do_natural W F p.statement y p.set e)
  sound_step (by_metainst p ms qs) h y e = instances.do_instance W F p h.0 ms h.1 qs h.2 y e
