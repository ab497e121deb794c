-- What an error leaves of a page.
use Rattle.std.specs.Prelude.{ℕ, List}
use Rattle.std.specs.declared.option.Option.{Option}
use Rattle.std.specs.Io.KnownBytes.{Appends}

-- known bytes stay at the front, and some may stand behind them
pub record Grows (old new : Option (List ℕ)) : Type 0 where
  pub by : List ℕ
  pub grown : Appends old new by
