-- Expressions: finite trees of bound variables, free variables, symbols and metavariables; and what is put in them.
-- After the raw syntax of Haselwarter and Bauer, "Finitary type theories with and without contexts". Bound variables are
-- numbers, as in de Bruijn, "Lambda calculus notation with nameless dummies"; free variables have numbers of their own.
use Rattle.std.specs.Prelude.{ℕ, zero, suc, ◌+◌, ◌<◌, Option, Some, None, cond, nat_eq, ◌≢◌}

-- An expression is a bound variable (a number, 0 for the innermost binder around it), a free variable (a number), a symbol
-- (the number of its rule) at arguments, or a metavariable (a number) at terms. An argument has a number of binders and a
-- body; the argument for an equation premise is a dummy, which has binders and no body.
mutual
  pub data Expression : Type 0 where
    bound : ℕ → Expression
    free : ℕ → Expression
    symbol : ℕ → Arguments → Expression
    meta : ℕ → Terms → Expression

  pub data Arguments : Type 0 where
    no_arguments : Arguments
    with_body : ℕ → Expression → Arguments → Arguments
    dummy : ℕ → Arguments → Arguments

  pub data Terms : Type 0 where
    no_terms : Terms
    also : Expression → Terms → Terms

-- how many terms there are
unfoldable pub count : Terms → ℕ
count no_terms = zero
count (also t a) = suc (count a)

-- Renamings of bound variables: functions on their numbers. Renaming and putting at once for all bound variables are after
-- Schäfer, Tebbi and Smolka, "Autosubst: reasoning with de Bruijn terms and parallel substitutions".

-- the renaming below one more binder, whose own variable stays
unfoldable pub under_binder : (ℕ → ℕ) → ℕ → ℕ
under_binder r zero = zero
under_binder r (suc i) = suc (r i)

-- the renaming below n more binders
unfoldable pub under_binders : ℕ → (ℕ → ℕ) → ℕ → ℕ
under_binders zero r = r
under_binders (suc n) r = under_binder (under_binders n r)

-- the expression with its bound variables renamed
unfoldable mutual
  pub rename : (ℕ → ℕ) → Expression → Expression
  rename r (bound i) = bound (r i)
  rename r (free v) = free v
  rename r (symbol s a) = symbol s (rename_arguments r a)
  rename r (meta m a) = meta m (rename_terms r a)

  pub rename_arguments : (ℕ → ℕ) → Arguments → Arguments
  rename_arguments r no_arguments = no_arguments
  rename_arguments r (with_body n e a) = with_body n (rename (under_binders n r) e) (rename_arguments r a)
  rename_arguments r (dummy n a) = dummy n (rename_arguments r a)

  pub rename_terms : (ℕ → ℕ) → Terms → Terms
  rename_terms r no_terms = no_terms
  rename_terms r (also t a) = also (rename r t) (rename_terms r a)

-- Putting expressions for all bound variables at once: a function from their numbers to expressions.

-- the substitution below one more binder: its own variable stays, and the loose variables of what is put pass it
unfoldable pub lift : (ℕ → Expression) → ℕ → Expression
lift s zero = bound zero
lift s (suc i) = rename suc (s i)

-- the substitution below n more binders
unfoldable pub lifts : ℕ → (ℕ → Expression) → ℕ → Expression
lifts zero s = s
lifts (suc n) s = lift (lifts n s)

-- the expression with s i put for each loose bound variable i, the loose ones being those that point past all binders inside
unfoldable mutual
  pub put : (ℕ → Expression) → Expression → Expression
  put s (bound i) = s i
  put s (free v) = free v
  put s (symbol f a) = symbol f (put_arguments s a)
  put s (meta m a) = meta m (put_terms s a)

  pub put_arguments : (ℕ → Expression) → Arguments → Arguments
  put_arguments s no_arguments = no_arguments
  put_arguments s (with_body n e a) = with_body n (put (lifts n s) e) (put_arguments s a)
  put_arguments s (dummy n a) = dummy n (put_arguments s a)

  pub put_terms : (ℕ → Expression) → Terms → Terms
  put_terms s no_terms = no_terms
  put_terms s (also t a) = also (put s t) (put_terms s a)

-- the substitution that puts t for the innermost variable, and for the others what s puts for the one before
unfoldable pub push : (ℕ → Expression) → Expression → ℕ → Expression
push s t zero = t
push s t (suc i) = s i

-- The substitution that puts terms for the innermost variables, the last term for the innermost one. So the first term is for
-- the outermost binder, as the terms of a metavariable are for its boundary's domains in their order.
unfoldable pub pushes : (ℕ → Expression) → Terms → ℕ → Expression
pushes s no_terms = s
pushes s (also t a) = pushes (push s t) a

-- What is put for free variables and metavariables.

-- what is put for a metavariable at terms: the body, with the terms for its bound variables; or where there is no body, the
-- metavariable at these terms
unfoldable pub body_or : Option Expression → ℕ → Terms → Expression
body_or None m a = meta m a
body_or (Some b) m a = put (pushes bound a) b

-- The expression with s v put for each free variable v, and for each metavariable m at k terms the body i m k, where there
-- is one, at these terms. All is put at once, and what is put is not looked at again. It is meant for closed s v and for bodies
-- without loose variables but those for the k terms: nothing is shifted where it passes binders.
unfoldable mutual
  pub act : (ℕ → Expression) → (ℕ → ℕ → Option Expression) → Expression → Expression
  act s i (bound j) = bound j
  act s i (free v) = s v
  act s i (symbol f a) = symbol f (act_arguments s i a)
  act s i (meta m a) = body_or (i m (count a)) m (act_terms s i a)

  pub act_arguments : (ℕ → Expression) → (ℕ → ℕ → Option Expression) → Arguments → Arguments
  act_arguments s i no_arguments = no_arguments
  act_arguments s i (with_body n e a) = with_body n (act s i e) (act_arguments s i a)
  act_arguments s i (dummy n a) = dummy n (act_arguments s i a)

  pub act_terms : (ℕ → Expression) → (ℕ → ℕ → Option Expression) → Terms → Terms
  act_terms s i no_terms = no_terms
  act_terms s i (also t a) = also (act s i t) (act_terms s i a)

-- The expression with a substitution done to it: for each free variable a closed term, put at all places at once. Where a
-- substitution is to leave a variable alone it has the variable itself.
abbrev pub substitute : (ℕ → Expression) → Expression → Expression
substitute s e = act s (λ m k. None) e

-- the substitution of one term t for the free variable v
abbrev pub in_place_of : ℕ → Expression → ℕ → Expression
in_place_of v t u = cond (nat_eq u v) t (free u)

-- The expression at an instance, which has bodies for some metavariables, put at all places at once. The free variables stay.
abbrev pub instantiate : (ℕ → ℕ → Option Expression) → Expression → Expression
instantiate i e = act free i e

-- each bound number is below k plus the number of binders around it: for k = 0, the expression is closed
abbrev mutual
  pub ClosedAt : ℕ → Expression → Type 0
  ClosedAt k (bound i) = i < k
  ClosedAt k (free v) = Unit {0}
  ClosedAt k (symbol f a) = ClosedArguments k a
  ClosedAt k (meta m a) = ClosedTerms k a

  pub ClosedArguments : ℕ → Arguments → Type 0
  ClosedArguments k no_arguments = Unit {0}
  ClosedArguments k (with_body n e a) = ClosedAt (n + k) e × ClosedArguments k a
  ClosedArguments k (dummy n a) = ClosedArguments k a

  pub ClosedTerms : ℕ → Terms → Type 0
  ClosedTerms k no_terms = Unit {0}
  ClosedTerms k (also t a) = ClosedAt k t × ClosedTerms k a

-- each free variable of the expression is as f says, and each metavariable, with its number of terms, as d says
abbrev mutual
  pub MentionsOnly : (ℕ → Type 0) → (ℕ → ℕ → Type 0) → Expression → Type 0
  MentionsOnly f d (bound i) = Unit {0}
  MentionsOnly f d (free v) = f v
  MentionsOnly f d (symbol s a) = ArgumentsMentionOnly f d a
  MentionsOnly f d (meta m a) = d m (count a) × TermsMentionOnly f d a

  pub ArgumentsMentionOnly : (ℕ → Type 0) → (ℕ → ℕ → Type 0) → Arguments → Type 0
  ArgumentsMentionOnly f d no_arguments = Unit {0}
  ArgumentsMentionOnly f d (with_body n e a) = MentionsOnly f d e × ArgumentsMentionOnly f d a
  ArgumentsMentionOnly f d (dummy n a) = ArgumentsMentionOnly f d a

  pub TermsMentionOnly : (ℕ → Type 0) → (ℕ → ℕ → Type 0) → Terms → Type 0
  TermsMentionOnly f d no_terms = Unit {0}
  TermsMentionOnly f d (also t a) = MentionsOnly f d t × TermsMentionOnly f d a

-- the free variable v is not mentioned
abbrev pub Without : ℕ → Expression → Type 0
Without v e = MentionsOnly (λ u. u ≢ v) (λ m k. Unit {0}) e

-- Opening and closing, for an expression below k domains that stay around it.

-- opening: the closed term t in place of the bound variable that points past the k domains and all binders inside
unfoldable mutual
  pub open_at : ℕ → Expression → Expression → Expression
  open_at k t (bound i) = cond (nat_eq i k) t (bound i)
  open_at k t (free u) = free u
  open_at k t (symbol f a) = symbol f (open_arguments k t a)
  open_at k t (meta m a) = meta m (open_terms k t a)

  pub open_arguments : ℕ → Expression → Arguments → Arguments
  open_arguments k t no_arguments = no_arguments
  open_arguments k t (with_body n e a) = with_body n (open_at (n + k) t e) (open_arguments k t a)
  open_arguments k t (dummy n a) = dummy n (open_arguments k t a)

  pub open_terms : ℕ → Expression → Terms → Terms
  open_terms k t no_terms = no_terms
  open_terms k t (also e a) = also (open_at k t e) (open_terms k t a)

-- closing: the bound variable that points past the k domains and all binders inside, in place of the free variable v
unfoldable mutual
  pub close_at : ℕ → ℕ → Expression → Expression
  close_at k v (bound i) = bound i
  close_at k v (free u) = cond (nat_eq u v) (bound k) (free u)
  close_at k v (symbol f a) = symbol f (close_arguments k v a)
  close_at k v (meta m a) = meta m (close_terms k v a)

  pub close_arguments : ℕ → ℕ → Arguments → Arguments
  close_arguments k v no_arguments = no_arguments
  close_arguments k v (with_body n e a) = with_body n (close_at (n + k) v e) (close_arguments k v a)
  close_arguments k v (dummy n a) = dummy n (close_arguments k v a)

  pub close_terms : ℕ → ℕ → Terms → Terms
  close_terms k v no_terms = no_terms
  close_terms k v (also t a) = also (close_at k v t) (close_terms k v a)
