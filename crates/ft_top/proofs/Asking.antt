-- The words of a call.
use Rattle.std.proofs.Common.{◌≡◌, ◌∙◌, sym, ap, ℕ, ◌<◌, ◌≤◌, List, [], ◌∷◌, length, get_or, map, codes, refl, arith}
use Rattle.ft_answers.specs.declared.words.Job.{Job}
use Rattle.ft_answers.specs.declared.words.Job.TheVariants as job
use Rattle.ft_answers.specs.Words.{word_of, IsAsked}

-- a list of one element is that element
one_element : {A : Type 0} (xs : List A) (x : A) → length xs ≡ 1 → x ≡ get_or xs 0 x → xs ≡ x ∷ []
one_element [] x n h = absurd (omega (arith, n))
one_element (y ∷ []) x n h = grind arith
one_element (y ∷ z ∷ xs) x n h = absurd (omega (arith, n))

-- the texts of a list of one word
pub one_word : {A : Type 0} (f : A → List ℕ) (ws : List A) (w : A) → 1 ≤ length ws → length ws ≤ 1 → w ≡ get_or ws 0 w → map f ws ≡ f w ∷ []
one_word f ws w low high h = ap (map f) (one_element ws w (omega (arith, low, high)) h)

-- the first of the texts is the word's
pub first_word : (words : List (List ℕ)) (t u : List ℕ) → words ≡ t ∷ [] → words ≡ u ∷ [] → t ≡ u
first_word words t u h k = cc

-- no text, or more than one, are the words of no job
pub other_words : {A : Type 0} (f : A → List ℕ) (ws : List A) (j : Job) → (length ws ≡ 1 → ⊥) → IsAsked (map f ws) j → ⊥
other_words f [] j other h = cc
other_words f (w ∷ []) j other h = other refl
other_words f (w ∷ v ∷ ws) j other h = cc

differ : (a b : ℕ) (s t : List ℕ) → a ∷ s ≡ b ∷ t → (a ≡ b → ⊥) → ⊥
differ a b s t h n = n cc

-- words ask for one job at most
pub one_job : (words : List (List ℕ)) (i j : Job) → IsAsked words i → IsAsked words j → i ≡ j
one_job words job.Run job.Run h k = refl
one_job words job.Run job.Export h k = absurd (differ 114 101 _ _ (first_word words (codes "run") (codes "export") h k) (λ e. absurd (omega (arith, e))))
one_job words job.Run job.Check h k = absurd (differ 114 99 _ _ (first_word words (codes "run") (codes "check") h k) (λ e. absurd (omega (arith, e))))
one_job words job.Export job.Run h k = absurd (differ 101 114 _ _ (first_word words (codes "export") (codes "run") h k) (λ e. absurd (omega (arith, e))))
one_job words job.Export job.Export h k = refl
one_job words job.Export job.Check h k = absurd (differ 101 99 _ _ (first_word words (codes "export") (codes "check") h k) (λ e. absurd (omega (arith, e))))
one_job words job.Check job.Run h k = absurd (differ 99 114 _ _ (first_word words (codes "check") (codes "run") h k) (λ e. absurd (omega (arith, e))))
one_job words job.Check job.Export h k = absurd (differ 99 101 _ _ (first_word words (codes "check") (codes "export") h k) (λ e. absurd (omega (arith, e))))
one_job words job.Check job.Check h k = refl
