-- Expressions, domains and statements that are moved.
use Rattle.std.proofs.Common.{◌≡◌, ◌≢◌, ◌↔◌, ℕ, suc, ◌+◌, ◌<◌, ◌≤◌, Bool, true, false, ◌&&◌, List, [], ◌∷◌, refl, sym, ap, ap₂, ◌∙◌, subst, length, drop, get_or, IsTrue, arith}
use Rattle.std.proofs.lemmas.List.{drop_more, get_or_default}
use Rattle.std.proofs.Math.ListN.{drop_of_length-le}
use Rattle.std.proofs.Math.Bool.{and_assoc, and-false}
use Rattle.ft_theory.specs.Expressions.{Expression, open_at, close_at}
use Rattle.ft_theory.specs.Small.{IsSmall}
use Rattle.ft_theory.specs.Statements.{Claim, plain, map_claim, map_statement}
use Rattle.ft_items.specs.Equal.{equal_claims, equal_expressions, equal_statements}
use Rattle.ft_sound.proofs.EqualLemmas.{by_equal, expression_true}
use Rattle.ft_syntax.specs.Laws.{tree_extends}
use Rattle.ft_syntax.specs.Table.{tree, Extends}
use Rattle.ft_judge.specs.Meaning.{under}
use Rattle.ft_steps.specs.Moving.{domains_moved, moved, moved_statement}
use Rattle.ft_steps.specs.declared.moving.Move.{Move}
use Rattle.ft_steps.specs.declared.moving.Move.TheVariants.{Open, Close}

-- an expression is copied as w, and then the term to be put as p
opened_as : (us vs ts : List Expression) (w p k e by : ℕ) → Extends us vs → w < length us → tree us w ≡ tree ts e → tree vs p ≡ tree ts by → open_at k (tree vs p) (tree vs w) ≡ open_at k (tree ts by) (tree ts e)
opened_as us vs ts w p k e by x l h g = ap₂ (open_at k) g (tree_extends us vs w x l ∙ h)

pub opened_is : (us vs rs ts : List Expression) (m : Move) (w p r k e by : ℕ) → m ≡ Open by → Extends us vs → w < length us → tree us w ≡ tree ts e → tree vs p ≡ tree ts by → tree rs r ≡ open_at k (tree vs p) (tree vs w) → tree rs r ≡ moved ts m k (tree ts e)
opened_is us vs rs ts m w p r k e by q x l h g f = f ∙ opened_as us vs ts w p k e by x l h g ∙ ap (λ m. moved ts m k (tree ts e)) (sym q)

pub closed_is : (us rs ts : List Expression) (m : Move) (w r k e v : ℕ) → m ≡ Close v → tree us w ≡ tree ts e → tree rs r ≡ close_at k v (tree us w) → tree rs r ≡ moved ts m k (tree ts e)
closed_is us rs ts m w r k e v q h f = f ∙ ap (close_at k v) h ∙ ap (λ m. moved ts m k (tree ts e)) (sym q)

pub opened_big : {P : Type 0} (us vs ts : List Expression) (m : Move) (w p k e by : ℕ) → m ≡ Open by → Extends us vs → w < length us → tree us w ≡ tree ts e → tree vs p ≡ tree ts by → (IsSmall (open_at k (tree vs p) (tree vs w)) → ⊥) → IsSmall (moved ts m k (tree ts e)) → P
opened_big us vs ts m w p k e by q x l h g n s = absurd (n (subst IsSmall (sym (opened_as us vs ts w p k e by x l h g ∙ ap (λ m. moved ts m k (tree ts e)) (sym q))) s))

pub closed_big : {P : Type 0} (us ts : List Expression) (m : Move) (w k e v : ℕ) → m ≡ Close v → tree us w ≡ tree ts e → (IsSmall (close_at k v (tree us w)) → ⊥) → IsSmall (moved ts m k (tree ts e)) → P
closed_big us ts m w k e v q h n s = absurd (n (subst IsSmall (sym (ap (close_at k v) h ∙ ap (λ m. moved ts m k (tree ts e)) (sym q))) s))

-- what is found is small, and so nothing that is not
pub big_differs : (e f : Expression) → (IsSmall e → ⊥) → IsSmall f → false ≡ equal_expressions e f
big_differs e f n s = go (equal_expressions e f) refl
  where
    go : (b : Bool) → equal_expressions e f ≡ b → false ≡ b
    go true h = absurd (n (subst IsSmall (sym (expression_true e f h)) s))
    go false h = refl

-- y is formed as r, and then x is copied as f
pub formed_same : (rs ws : List Expression) (r f : ℕ) (y x : Expression) (b : Bool) → r < length rs → tree rs r ≡ y → Extends rs ws → tree ws f ≡ x → (IsTrue b ↔ (tree ws r ≡ tree ws f)) → b ≡ equal_expressions y x
formed_same rs ws r f y x b l e k q s = by_equal (tree ws r) (tree ws f) b s ∙ ap₂ equal_expressions (tree_extends rs ws r k l ∙ e) q

-- the domains
domains_at : (ts : List Expression) (m : Move) (As Bs : List ℕ) (k A B : ℕ) → k < length As → length As ≡ length Bs → A ≡ get_or As k A → B ≡ get_or Bs k B
    → domains_moved ts m k (drop k As) (drop k Bs) ≡ (equal_expressions (moved ts m k (tree ts A)) (tree ts B) && domains_moved ts m (k + 1) (drop (k + 1) As) (drop (k + 1) Bs))
domains_at ts m As Bs k A B l same e f =
    let more : k < length Bs = subst (λ n. k < n) same l in
    let next : suc k ≡ k + 1 = omega arith in
    ap₂ (domains_moved ts m k) (drop_more As k 0 l) (drop_more Bs k 0 more)
    ∙ ap₂ (λ A B. equal_expressions (moved ts m k (tree ts A)) (tree ts B) && domains_moved ts m (suc k) (drop (k + 1) As) (drop (k + 1) Bs)) (get_or_default As k 0 A l ∙ sym e) (get_or_default Bs k 0 B more ∙ sym f)
    ∙ ap (λ n. equal_expressions (moved ts m k (tree ts A)) (tree ts B) && domains_moved ts m n (drop (k + 1) As) (drop (k + 1) Bs)) next

pub domains_next : (ts : List Expression) (m : Move) (As Bs : List ℕ) (k A B : ℕ) (a b : Bool) → a ≡ domains_moved ts m k (drop k As) (drop k Bs) → k < length As → length As ≡ length Bs → A ≡ get_or As k A → B ≡ get_or Bs k B
    → b ≡ equal_expressions (moved ts m k (tree ts A)) (tree ts B) → b ≡ true → a ≡ domains_moved ts m (k + 1) (drop (k + 1) As) (drop (k + 1) Bs)
domains_next ts m As Bs k A B a b h l s e f g t = h ∙ domains_at ts m As Bs k A B l s e f ∙ ap (λ c. c && domains_moved ts m (k + 1) (drop (k + 1) As) (drop (k + 1) Bs)) (sym g ∙ t)

pub domains_not : (ts : List Expression) (m : Move) (As Bs : List ℕ) (k A B : ℕ) (a b : Bool) → a ≡ domains_moved ts m k (drop k As) (drop k Bs) → k < length As → length As ≡ length Bs → A ≡ get_or As k A → B ≡ get_or Bs k B
    → b ≡ equal_expressions (moved ts m k (tree ts A)) (tree ts B) → b ≡ false → false ≡ a
domains_not ts m As Bs k A B a b h l s e f g t = sym (h ∙ domains_at ts m As Bs k A B l s e f ∙ ap (λ c. c && domains_moved ts m (k + 1) (drop (k + 1) As) (drop (k + 1) Bs)) (sym g ∙ t))

pub domains_end : (ts : List Expression) (m : Move) (As Bs : List ℕ) (k : ℕ) (a : Bool) → a ≡ domains_moved ts m k (drop k As) (drop k Bs) → length As ≡ length Bs → length As ≤ k → true ≡ a
domains_end ts m As Bs k a h s l = sym (h ∙ ap₂ (domains_moved ts m k) (drop_of_length-le As l) (drop_of_length-le Bs (subst (λ n. n ≤ k) s l)))

-- the statement
same_under : (ts : List Expression) (m : Move) (k : ℕ) (As Bs : List ℕ) (c d : Claim)
    → (domains_moved ts m k As Bs && equal_claims (map_claim (moved ts m (k + length As)) c) d) ≡ equal_statements (map_statement (moved ts m) k (under ts As (plain c))) (under ts Bs (plain d))
same_under ts m k [] [] c d = let all : k + 0 ≡ k = omega arith in ap (λ n. equal_claims (map_claim (moved ts m n) c) d) all
same_under ts m k [] (B ∷ Bs) c d = refl
same_under ts m k (A ∷ As) [] c d = refl
same_under ts m k (A ∷ As) (B ∷ Bs) c d =
    let next : k + suc (length As) ≡ suc k + length As = omega arith in
    and_assoc (equal_expressions (moved ts m k (tree ts A)) (tree ts B)) (domains_moved ts m (suc k) As Bs) (equal_claims (map_claim (moved ts m (k + suc (length As))) c) d)
    ∙ ap (λ n. equal_expressions (moved ts m k (tree ts A)) (tree ts B) && (domains_moved ts m (suc k) As Bs && equal_claims (map_claim (moved ts m n) c) d)) next
    ∙ ap (λ b. equal_expressions (moved ts m k (tree ts A)) (tree ts B) && b) (same_under ts m (suc k) As Bs c d)

pub lengths_differ : (ts : List Expression) (m : Move) (k : ℕ) (As Bs : List ℕ) → length As ≢ length Bs → domains_moved ts m k As Bs ≡ false
lengths_differ ts m k [] [] n = absurd (n refl)
lengths_differ ts m k [] (B ∷ Bs) n = refl
lengths_differ ts m k (A ∷ As) [] n = refl
lengths_differ ts m k (A ∷ As) (B ∷ Bs) n = ap (λ b. equal_expressions (moved ts m k (tree ts A)) (tree ts B) && b) (lengths_differ ts m (suc k) As Bs (λ e. n (ap suc e))) ∙ and-false (equal_expressions (moved ts m k (tree ts A)) (tree ts B))

pub other_number : (ts : List Expression) (m : Move) (As Bs : List ℕ) (c d : Claim) → length As ≢ length Bs → false ≡ equal_statements (moved_statement ts m (under ts As (plain c))) (under ts Bs (plain d))
other_number ts m As Bs c d n = ap (λ b. b && equal_claims (map_claim (moved ts m (0 + length As)) c) d) (sym (lengths_differ ts m 0 As Bs n)) ∙ same_under ts m 0 As Bs c d

pub other_domains : (ts : List Expression) (m : Move) (As Bs : List ℕ) (c d : Claim) (b : Bool) → b ≡ domains_moved ts m 0 As Bs → b ≡ false → false ≡ equal_statements (moved_statement ts m (under ts As (plain c))) (under ts Bs (plain d))
other_domains ts m As Bs c d b e f = ap (λ b. b && equal_claims (map_claim (moved ts m (0 + length As)) c) d) (sym f ∙ e) ∙ same_under ts m 0 As Bs c d

pub moved_under : (ts : List Expression) (m : Move) (As Bs : List ℕ) (c d : Claim) (b a : Bool) → b ≡ domains_moved ts m 0 As Bs → b ≡ true → a ≡ equal_claims (map_claim (moved ts m (length As)) c) d
    → a ≡ equal_statements (moved_statement ts m (under ts As (plain c))) (under ts Bs (plain d))
moved_under ts m As Bs c d b a e f g =
    let all : length As ≡ 0 + length As = omega arith in
    g ∙ ap (λ n. equal_claims (map_claim (moved ts m n) c) d) all
    ∙ ap (λ b. b && equal_claims (map_claim (moved ts m (0 + length As)) c) d) (sym f ∙ e) ∙ same_under ts m 0 As Bs c d
