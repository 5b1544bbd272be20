use Rattle.ft_nucleus_laws.proofs.Fits as proved
use Rattle.ft_nucleus_laws.proofs.fits_is_filling.Goals as goal

pub returns : goal.returns
returns c = record { law = proved.fits_is_filling }
