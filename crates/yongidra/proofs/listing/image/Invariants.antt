use Rattle.std.proofs.Common.{◌≡◌, take, vec_items}
use Rattle.std.specs.List.{flat_map}
use Rattle.yongidra.specs.Listing.{bytes_of}
use Rattle.yongidra.proofs.listing.image.Given as goal

abbrev pub invariant-loop-w : goal.invariant-loop-w
invariant-loop-w l = vec_items l.bytes ≡ flat_map bytes_of (take l.w-index l.code)
