-- What own-words tell.
use Rattle.std.proofs.Common.{ap, arith}
use Rattle.mon_types.specs.declared.region.Region.TheVariants as regions
use Rattle.mon_types.proofs.RegionRows.{region_back}
use Rattle.core_access.specs.Looks.{owned_since, WordsTell}

pub words_tell : WordsTell
words_tell permitted regions.Free h = ap (owned_since permitted) (region_back regions.Free h)
words_tell permitted (regions.Owned owner since) h = ap (owned_since permitted) (region_back (regions.Owned owner since) h)
words_tell permitted (regions.Blocked owner since at) h =
    ap (owned_since permitted) (region_back (regions.Blocked owner since 0) (h.0, h.1, omega arith))
words_tell permitted (regions.Offered to at) h = ap (owned_since permitted) (region_back (regions.Offered to at) h)
