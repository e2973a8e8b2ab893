-- ==== Inside: words for contracts below the public face. What the executive, its library and the demands claim does not rest on them.
-- What the code of an accepted call has to give.
use Rattle.std.specs.Prelude.{◌≡◌}
use Rattle.tables.specs.Held.{Shows}
use Rattle.meaning.specs.declared.Given.{Given}
use Rattle.meaning.specs.Services.{Effect}

-- the tables show the state of an effect, and the result is its result
pub record Gives (r : Given) (e : Effect) : Type 0 where
  pub shows : Shows r.tables e.state
  pub result : r.result ≡ e.result
