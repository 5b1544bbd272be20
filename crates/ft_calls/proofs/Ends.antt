-- The last part of a call.
use Rattle.std.proofs.Common.{◌≡◌, ℕ, [], Some, ◌++◌, ◌∷◌, ap, ◌∙◌}
use Rattle.std.specs.Prelude.{Ok, Err, length}
use Rattle.ft_items.specs.Item.{Stated, entry}
use Rattle.ft_items.specs.Store.{Assertion, nth, store_of, entries_in}
use Rattle.ft_items.specs.Good.{Allowed}
use Rattle.ft_items.proofs.Lists.{entries_append, nth_end}
use Rattle.ft_nucleus_laws.proofs.Calls.{answer_gives}
use Rattle.ft_syntax.specs.Laws.{extends_same}
use Rattle.ft_judge.specs.declared.fault.Fault.TheVariants.{Memory}
use Rattle.ft_kernel.specs.State.{State, with_item, entry_at}
use Rattle.ft_calls.specs.Answers.{IsAnswer, Answers}

-- what a call answers may be added
pub allowed : (s : State) (n : Stated) (a : Assertion) → IsAnswer s n (Ok a) → Allowed s.items (entry (record { statement = a.statement; set = a.set; step = n }))
allowed s n a h = answer_gives (store_of s.items) n h.0 a h.1 h.2

-- and then the call answers it
pub answers_ok : (s t : State) (n : Stated) (a : Assertion) (j : ℕ) → IsAnswer s n (Ok a) → t ≡ with_item s (entry (record { statement = a.statement; set = a.set; step = n }))
    → j ≡ length (entries_in s.items) → Answers s n (Ok j) t
answers_ok s t n a j h e l = (a, h, (ap (λ (t : State). t.items) e, l, extends_same s.trees t.trees (ap (λ (t : State). t.trees) e)))

-- without memory all is as before
pub answers_memory : (s t : State) (n : Stated) → t ≡ s → Answers s n (Err Memory) t
answers_memory s t n e = (ap (λ (t : State). t.items) e, extends_same s.trees t.trees (ap (λ (t : State). t.trees) e))

-- the new entry is there
pub entry_there : (s t : State) (n : Stated) (a : Assertion) (j : ℕ) → t ≡ with_item s (entry (record { statement = a.statement; set = a.set; step = n })) → j ≡ length (entries_in s.items) → entry_at t j ≡ Some a
entry_there s t n a j e l =
    ap (λ (t : State). entry_at t j) e
    ∙ ap (λ es. nth es j) (entries_append s.items (entry (record { statement = a.statement; set = a.set; step = n }) ∷ []))
    ∙ ap (nth (entries_in s.items ++ a ∷ [])) l
    ∙ nth_end (entries_in s.items) a
