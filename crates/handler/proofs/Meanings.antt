-- What the tests of the table mean.
-- Assumes nothing.
use Rattle.frame.proofs.Forms.{well_formed, not_malformed}
use Rattle.engine.proofs.Sounds.{fit_is_sound}
use Rattle.handler.specs.Demand1.{TestsMean}

pub tests_mean : TestsMean
tests_mean = record { formed = λ f len. (well_formed f len, not_malformed f len); fit = fit_is_sound }
