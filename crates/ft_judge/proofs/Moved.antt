-- What moving domains and a form makes of the statement.
use Rattle.std.proofs.Common.{◌≡◌, ℕ, zero, suc, ◌+◌, ◌-◌, ◌<◌, ◌≤◌, List, [], ◌∷◌, length, drop, map, refl, sym, ap, ap₂, ◌∙◌, subst, arith}
use Rattle.std.proofs.lemmas.List.{length-map}
use Rattle.ft_theory.specs.Expressions.{Expression, open_at}
use Rattle.ft_theory.specs.Statements.{Claim, is_type, has_type, equal_types, equal_terms, term_goal, type_equation_goal, term_equation_goal, Statement, plain, abstracted, map_claim, map_statement, AllOfClaim, AllOfStatement, opened, close_statement}
use Rattle.ft_theory.specs.Small.{IsSmall}
use Rattle.ft_syntax.specs.Table.{tree, Extends, AllBelow}
use Rattle.ft_syntax.specs.Laws.{tree_extends, trees_extend}
use Rattle.ft_judge.specs.Laws.{claim_extends, goal_extends}
use Rattle.ft_judge.specs.Meaning.{claim_in, goal_in, under, FormBelow, GoalBelow}
use Rattle.ft_judge.specs.Moving.{moved, moved_list, MoveBelow, IsSmallStatement, AreSmall}
use Rattle.ft_judge.specs.declared.judgement.Form.{Form}
use Rattle.ft_judge.specs.declared.judgement.Form.TheVariants.{Ty, Tm, EqTy, EqTm}
use Rattle.ft_judge.specs.declared.judgement.Goal.{Goal}
use Rattle.ft_judge.specs.declared.judgement.Goal.TheVariants as goal
use Rattle.ft_judge.specs.declared.moving.Move.{Move}
use Rattle.ft_judge.specs.declared.moving.Move.TheVariants.{Open, Close}

-- a statement by its list of domains
abbrev listed : List Expression → Claim → Statement
listed [] c = plain c
listed (A ∷ As) c = abstracted A (listed As c)

under_listed : (ts : List Expression) (As : List ℕ) (c : Claim) → under ts As (plain c) ≡ listed (map (tree ts) As) c
under_listed ts [] c = refl
under_listed ts (A ∷ As) c = ap (abstracted (tree ts A)) (under_listed ts As c)

map_listed : (ts : List Expression) (w : Move) (k : ℕ) (As : List Expression) (c : Claim) → map_statement (moved ts w) k (listed As c) ≡ listed (moved_list ts w k As) (map_claim (moved ts w (k + length As)) c)
map_listed ts w k [] c = ap (λ l. plain (map_claim (moved ts w l) c)) (omega arith)
map_listed ts w k (A ∷ As) c =
    let e : suc k + length As ≡ k + suc (length As) = omega arith in
    ap (abstracted (moved ts w k A)) (map_listed ts w (suc k) As c ∙ ap (λ l. listed (moved_list ts w (suc k) As) (map_claim (moved ts w l) c)) e)

small_listed : (k : ℕ) (As : List Expression) (c : Claim) → AllOfStatement (λ k. IsSmall) k (listed As c) → AreSmall As × AllOfClaim IsSmall c
small_listed k [] c s = (tt, s)
small_listed k (A ∷ As) c s = let r = small_listed (suc k) As c s.1 in ((s.0, r.0), r.1)

-- each expression of a claim, with what is put read from a table that goes on
map_extends : (ts us : List Expression) (w : Move) (k : ℕ) (c : Claim) → Extends ts us → MoveBelow (length ts) w → map_claim (moved us w k) c ≡ map_claim (moved ts w k) c
map_extends ts us (Open t) k c x h = ap (λ u. map_claim (λ e. open_at k u e) c) (tree_extends ts us t x h)
map_extends ts us (Close v) k c x h = refl

-- the opened statement
opened_listed : (ts : List Expression) (by : ℕ) (A : Expression) (As : List Expression) (c : Claim) → opened (tree ts by) (listed (A ∷ As) c) ≡ listed (moved_list ts (Open by) 0 As) (map_claim (moved ts (Open by) (length As)) c)
opened_listed ts by A As c = map_listed ts (Open by) zero As c ∙ ap (λ l. listed (moved_list ts (Open by) 0 As) (map_claim (moved ts (Open by) l) c)) (omega arith)

opened_under : (ts : List Expression) (by : ℕ) (As : List ℕ) (c : Claim) → 0 < length As →
    opened (tree ts by) (under ts As (plain c)) ≡ listed (moved_list ts (Open by) 0 (map (tree ts) (drop 1 As))) (map_claim (moved ts (Open by) (length As - 1)) c)
opened_under ts by [] c l = absurd (omega arith)
opened_under ts by (A ∷ As) c l =
    let n : length (map (tree ts) As) ≡ length (A ∷ As) - 1 = omega (arith, length-map As (tree ts)) in
    ap (opened (tree ts by)) (under_listed ts (A ∷ As) c) ∙ opened_listed ts by (tree ts A) (map (tree ts) As) c ∙ ap (λ k. listed (moved_list ts (Open by) 0 (map (tree ts) As)) (map_claim (moved ts (Open by) k) c)) n

pub opened_statement : (t0 t1 t2 : List Expression) (by k : ℕ) (As ds : List ℕ) (c d : Claim) → 0 < length As → Extends t1 t2 → AllBelow (length t1) ds →
    map (tree t1) ds ≡ moved_list t0 (Open by) 0 (map (tree t0) (drop 1 As)) → k + 1 ≡ length As → d ≡ map_claim (moved t0 (Open by) k) c → under t2 ds (plain d) ≡ opened (tree t0 by) (under t0 As (plain c))
opened_statement t0 t1 t2 by k As ds c d l x b e n h =
    under_listed t2 ds d ∙ ap₂ listed (trees_extend t1 t2 ds x b ∙ e) (h ∙ ap (λ j. map_claim (moved t0 (Open by) j) c) (omega (arith, n))) ∙ sym (opened_under t0 by As c l)

pub opened_domains_big : (ts : List Expression) (by : ℕ) (As : List ℕ) (c : Claim) → 0 < length As → (AreSmall (moved_list ts (Open by) 0 (map (tree ts) (drop 1 As))) → ⊥) → IsSmallStatement (opened (tree ts by) (under ts As (plain c))) → ⊥
opened_domains_big ts by As c l n s = n (small_listed 0 (moved_list ts (Open by) 0 (map (tree ts) (drop 1 As))) (map_claim (moved ts (Open by) (length As - 1)) c) (subst IsSmallStatement (opened_under ts by As c l) s)).0

pub opened_claim_big : (ts : List Expression) (by k : ℕ) (As : List ℕ) (c : Claim) → 0 < length As → k + 1 ≡ length As → (AllOfClaim IsSmall (map_claim (moved ts (Open by) k) c) → ⊥) → IsSmallStatement (opened (tree ts by) (under ts As (plain c))) → ⊥
opened_claim_big ts by k As c l e n s =
    n (subst (λ j. AllOfClaim IsSmall (map_claim (moved ts (Open by) j) c)) (omega (arith, e)) (small_listed 0 (moved_list ts (Open by) 0 (map (tree ts) (drop 1 As))) (map_claim (moved ts (Open by) (length As - 1)) c) (subst IsSmallStatement (opened_under ts by As c l) s)).1)

-- the closed statement
closed_under : (ts : List Expression) (v : ℕ) (As : List ℕ) (c : Claim) → close_statement v (under ts As (plain c)) ≡ listed (moved_list ts (Close v) 0 (map (tree ts) As)) (map_claim (moved ts (Close v) (length As)) c)
closed_under ts v As c =
    let n : 0 + length (map (tree ts) As) ≡ length As = omega (arith, length-map As (tree ts)) in
    ap (close_statement v) (under_listed ts As c) ∙ map_listed ts (Close v) zero (map (tree ts) As) c ∙ ap (λ k. listed (moved_list ts (Close v) 0 (map (tree ts) As)) (map_claim (moved ts (Close v) k) c)) n

pub closed_statement : (t0 t1 t2 : List Expression) (v ty k : ℕ) (As ds : List ℕ) (c d : Claim) → Extends t1 t2 → AllBelow (length t1) ds →
    map (tree t1) ds ≡ tree t0 ty ∷ moved_list t0 (Close v) 0 (map (tree t0) As) → k ≡ length As → d ≡ map_claim (moved t0 (Close v) k) c → under t2 ds (plain d) ≡ abstracted (tree t0 ty) (close_statement v (under t0 As (plain c)))
closed_statement t0 t1 t2 v ty k As ds c d x b e n h =
    under_listed t2 ds d ∙ ap₂ listed (trees_extend t1 t2 ds x b ∙ e) (h ∙ ap (λ j. map_claim (moved t0 (Close v) j) c) n) ∙ sym (ap (abstracted (tree t0 ty)) (closed_under t0 v As c))

pub closed_domains_big : (ts : List Expression) (v : ℕ) (As : List ℕ) (c : Claim) → (AreSmall (moved_list ts (Close v) 0 (map (tree ts) As)) → ⊥) → IsSmallStatement (close_statement v (under ts As (plain c))) → ⊥
closed_domains_big ts v As c n s = n (small_listed 0 (moved_list ts (Close v) 0 (map (tree ts) As)) (map_claim (moved ts (Close v) (length As)) c) (subst IsSmallStatement (closed_under ts v As c) s)).0

pub closed_claim_big : (ts : List Expression) (v k : ℕ) (As : List ℕ) (c : Claim) → k ≡ length As → (AllOfClaim IsSmall (map_claim (moved ts (Close v) k) c) → ⊥) → IsSmallStatement (close_statement v (under ts As (plain c))) → ⊥
closed_claim_big ts v k As c e n s =
    n (subst (λ j. AllOfClaim IsSmall (map_claim (moved ts (Close v) j) c)) (sym e) (small_listed 0 (moved_list ts (Close v) 0 (map (tree ts) As)) (map_claim (moved ts (Close v) (length As)) c) (subst IsSmallStatement (closed_under ts v As c) s)).1)

-- a form and a goal after the domains
pub form_after : (t0 t1 : List Expression) (w : Move) (k : ℕ) (f : Form) → Extends t0 t1 → FormBelow (length t0) f → MoveBelow (length t0) w → map_claim (moved t1 w k) (claim_in t1 f) ≡ map_claim (moved t0 w k) (claim_in t0 f)
form_after t0 t1 w k f x h b = map_extends t0 t1 w k (claim_in t1 f) x b ∙ ap (map_claim (moved t0 w k)) (claim_extends t0 t1 f x h)

pub goal_after : (t0 t1 : List Expression) (w : Move) (k : ℕ) (g : Goal) → Extends t0 t1 → GoalBelow (length t0) g → MoveBelow (length t0) w → map_claim (moved t1 w k) (goal_in t1 g) ≡ map_claim (moved t0 w k) (goal_in t0 g)
goal_after t0 t1 w k g x h b = map_extends t0 t1 w k (goal_in t1 g) x b ∙ ap (map_claim (moved t0 w k)) (goal_extends t0 t1 g x h)
