-- What an image line changes.
use Rattle.std.specs.Prelude.{ℕ, ◌+◌, set, nat_lt, if◌then◌else◌}
use Rattle.image.specs.declared.Directory.{Directory}
use Rattle.image.specs.declared.Entry.{Entry}

-- the directory with another N, and with other defined events
abbrev pub with_every : Directory → ℕ → Directory
with_every d n = record { modules = d.modules; every = n; defined = d.defined; entries = d.entries }

abbrev pub with_events : Directory → ℕ → Directory
with_events d set = record { modules = d.modules; every = d.every; defined = set; entries = d.entries }

-- the directory with one module more, behind those that it has; as it was where it has 32
abbrev pub with_module : Directory → Entry → Directory
with_module d e =
    if nat_lt d.modules 32 then record { modules = d.modules + 1; every = d.every; defined = d.defined; entries = set d.entries d.modules e }
    else d
