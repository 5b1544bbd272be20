-- Pieces of what is left and of what was written.
use Rattle.std.proofs.Common.{◌≡◌, ◌≤◌, ◌∙◌, sym, ap, refl, ◌+◌, ◌++◌, ℕ, List, [], Option, Some, None, inl, take, drop, option_map, ◌-◌, append_assoc, length, arith}
use Rattle.std.proofs.Math.Seq.{take-add}
use Rattle.std.proofs.lemmas.List.{take-append-drop, drop-drop, length-append, length-take}
use Rattle.std.specs.Prelude.{Result, Ok, Err, OnErr}
use Rattle.ft_common.proofs.Lists.{range_from}
use Rattle.ft_streams.specs.Streams.{Gives, GivesAtMost, Appends, raised_count, CountsOn}

-- a piece, and the next one
pub appends_next : (w w1 w2 : Option (List ℕ)) (xs : List ℕ) (a n : ℕ) → Appends w (take a xs) w1 → Appends w1 (take n (drop a xs)) w2 → Appends w (take (a + n) xs) w2
appends_next None w1 w2 xs a n h k = k ∙ ap (option_map (λ old. old ++ take n (drop a xs))) h
appends_next (Some w) w1 w2 xs a n h k =
    k ∙ ap (option_map (λ old. old ++ take n (drop a xs))) h
    ∙ ap Some (append_assoc w (take a xs) (take n (drop a xs)) ∙ ap (λ p. w ++ p) (sym (take-add a n xs)))

pub gives_next : (l l1 l2 : Option (List ℕ)) (xs ys : List ℕ) → Gives l xs l1 → Gives l1 ys l2 → Gives l (xs ++ ys) l2
gives_next l l1 None xs ys h k = h ∙ ap (option_map (λ rest. xs ++ rest)) k
gives_next l l1 (Some r) xs ys h k =
    h ∙ ap (option_map (λ rest. xs ++ rest)) k ∙ ap Some (sym (append_assoc xs ys r))

pub gives_front : (xs piece : List ℕ) (at n : ℕ) → piece ≡ take n (drop at xs) → Some (drop at xs) ≡ Some (piece ++ drop (at + n) xs)
gives_front xs piece at n h = ap Some (sym (rw h (ap (λ r. take n (drop at xs) ++ r) (sym (drop-drop n at xs)) ∙ take-append-drop n (drop at xs))))

pub appends_from : (w w1 w2 : Option (List ℕ)) (xs : List ℕ) (a n : ℕ) → Appends w (take a xs) w1 → Appends w1 (take n (take (length xs - a) (drop a xs))) w2 → Appends w (take (a + n) xs) w2
appends_from w w1 w2 xs a n h k = appends_next w w1 w2 xs a n h (rw (← range_from xs a) k)

pub gives_none : (l : Option (List ℕ)) → Gives l [] l
gives_none None = refl
gives_none (Some r) = refl

pub counts_none : (n : ℕ) → CountsOn n 0 n
counts_none n = inl (omega arith)

pub counts_next : (from by n at now : ℕ) → CountsOn from by at → now ≡ raised_count at n → CountsOn from (by + n) now
counts_next from by n at now h e = grind arith

front_length : (xs ys : List ℕ) (n : ℕ) → length (xs ++ take n ys) ≤ length xs + n
front_length xs ys n = omega (arith, length-append xs (take n ys), length-take n ys)

-- a piece, and the front of the next one
pub gives_at_most : (most n : ℕ) (l l1 l2 : Option (List ℕ)) (xs ys : List ℕ) → Gives l xs l1 → Gives l1 (take n ys) l2 → length xs + n ≤ most → GivesAtMost most l l2
gives_at_most most n l l1 l2 xs ys h k b =
    (xs ++ take n ys, omega (arith, front_length xs ys n, b), gives_next l l1 l2 xs (take n ys) h k)

pub on_err-gives : {T E : Type 0} (r : Result T E) (most n : ℕ) (l l1 l2 : Option (List ℕ)) (xs ys : List ℕ) → Gives l xs l1 → Gives l1 (take n ys) l2 → length xs + n ≤ most → OnErr r (GivesAtMost most l l2)
on_err-gives (Ok _) most n l l1 l2 xs ys h k b = tt
on_err-gives (Err _) most n l l1 l2 xs ys h k b = gives_at_most most n l l1 l2 xs ys h k b
