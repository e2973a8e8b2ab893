-- A request block of which each part is 0 is a free one.
use mathlib.Core.Path.{◌≡◌}
use Rattle.tables.specs.declared.Request.{Request}
use Rattle.tables.specs.Blocks.{no_request}

pub blank : (x : Request) → x.place ≡ 0 → x.owner ≡ 0 → x.device ≡ 0 → x.command ≡ 0 → x.bytes ≡ 0 → x ≡ no_request
blank x p o d c b = λ i. record { place = p i; owner = o i; device = d i; command = c i; bytes = b i }
