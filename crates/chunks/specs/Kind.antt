-- What a chunk holds, by its name. Assumes nothing.
use Rattle.std.specs.Prelude.{ℕ, if◌then◌else◌, ◌==◌}
use Rattle.chunks.specs.Chunks.{format_name, data_name, sampler_name}
use Rattle.chunks.specs.declared.Kind.{Kind}
use Rattle.chunks.specs.declared.Kind.TheVariants.{Format, Data, Sampler, Other}

abbrev pub kind_of : ℕ → Kind
kind_of name =
    if name == format_name then Format
    else if name == data_name then Data
    else if name == sampler_name then Sampler
    else Other
