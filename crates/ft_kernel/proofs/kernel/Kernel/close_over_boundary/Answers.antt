use Rattle.ft_kernel.proofs.Extended.{kernel_extended}
use Rattle.ft_kernel.proofs.kernel.Kernel.close_over_boundary.Goals as goal

pub invariant_of-self : goal.invariant_of-self
invariant_of-self c = kernel_extended _ _ _ _ _ _ _ _ _ c.self.invariant c.close_over_boundary.ensures.goes_on
