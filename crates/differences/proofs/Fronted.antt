-- What is known of a store whose header and table stand in its bytes. Assumes nothing.
use mathlib.Core.Path.{◌≡◌, refl, sym, ap, ◌∙◌}
use Rattle.outline.specs.Layout.{edition_number}
use Rattle.outline.specs.Stores.{edition_in, edition_of}
use Rattle.outline.specs.declared.Edition.{Edition}
use Rattle.outline.specs.declared.Edition.TheVariants.{First, Second}
use Rattle.differences.specs.Bodies.{Fronted}
use Rattle.differences.specs.declared.fronts.Front.{Front}

number_back : (e : Edition) → edition_of (edition_number e) ≡ e
unfolding edition_of edition_number
number_back First = refl
number_back Second = refl

pub edition_told : (f : Front) → f.edition ≡ edition_of (edition_in f.store.now)
edition_told f = sym (number_back f.edition) ∙ ap edition_of f.numbered ∙ number_back (edition_of (edition_in f.store.now))

pub fronted : (f : Front) → Fronted f.store.now f.edition f.n
fronted f = record { edition = edition_told f; count = f.counted; few = f.few; long = f.long }
