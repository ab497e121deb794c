-- `contacts::math::numerator` meets its contract: the fields and the scaled delta come back from their bits. Assumes nothing.
use Rattle.plane.proofs.Products.{near_back}
use Rattle.contacts.proofs.Tangents.{product_fits, less_fits, more_fits, scaled_size, wide_back, numerator_back}
use Rattle.contacts.proofs.math.numerator.Goals as goal

pub overflow_sub-result : goal.overflow_sub-result
overflow_sub-result c =
    less_fits (scaled_size _ _ c.ranges.delta c.requires.1 c.scaled-e.ensures) (near_back c.requires.0.x) (wide_back c.requires.3) (near_back c.requires.0.y)

pub overflow_mul-result-3 : goal.overflow_mul-result-3
overflow_mul-result-3 c = product_fits (scaled_size _ _ c.ranges.delta c.requires.1 c.scaled-e.ensures) (near_back c.requires.0.y)

pub overflow_mul-result-4 : goal.overflow_mul-result-4
overflow_mul-result-4 c = product_fits (wide_back c.requires.3) (near_back c.requires.0.x)

pub overflow_add-result : goal.overflow_add-result
overflow_add-result c =
    more_fits (scaled_size _ _ c.ranges.delta c.requires.1 c.scaled-e.ensures) (near_back c.requires.0.y) (wide_back c.requires.3) (near_back c.requires.0.x)

pub returns : goal.returns
returns c = numerator_back _ _ _ _ c.requires.0 c.ranges.delta c.requires.1 c.requires.3 c.scaled-e.ensures
