use Rattle.ft_kernel.proofs.Extended.{kernel_extended}
use Rattle.ft_kernel.proofs.kernel.Kernel.open_first.Goals as goal

pub invariant_of-self : goal.invariant_of-self
invariant_of-self c = kernel_extended _ _ _ _ _ _ _ _ _ c.self.invariant c.open_first.ensures.goes_on
