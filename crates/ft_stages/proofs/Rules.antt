-- Lemmas that the search for proofs goes by.
use Rattle.ft_meaning.proofs.Written.{form_LetIn, form_If, form_Match, form_Handle_None, form_Handle_Some, form_Abstract, form_Cons, form_Refl, form_Sym, form_Left, form_Right, form_Typeof, form_Domain, form_Natural, form_Normal, form_Boundaryof, form_SomeWord, form_Trans, form_Convert, form_Equal, form_Widen, form_Rewrite, form_Fill, form_Argument, form_Congruence, form_Perform, form_Call, form_Subst, form_TrueWord, form_FalseWord, form_Unit, form_Pair, form_NoneWord, form_Nil}
use Rattle.ft_stages.proofs.Firsts.{first_here, first_later}

-- a form as it is written, by its variant
pub ruleset written_forms = (form_LetIn, form_If, form_Match, form_Handle_None, form_Handle_Some, form_Abstract, form_Cons, form_Refl, form_Sym, form_Left, form_Right, form_Typeof, form_Domain, form_Natural, form_Normal, form_Boundaryof, form_SomeWord, form_Trans, form_Convert, form_Equal, form_Widen, form_Rewrite, form_Fill, form_Argument, form_Congruence, form_Perform, form_Call, form_Subst, form_TrueWord, form_FalseWord, form_Unit, form_Pair, form_NoneWord, form_Nil)

-- the first part of two rows
pub ruleset in_turn = (first_here, first_later)
