use Rattle.std.proofs.Common.{◌≡◌, ◌++◌, take, vec_items}
use Rattle.std.specs.List.{flat_map}
use Rattle.yongidra.specs.Listing.{line_of}
use Rattle.yongidra.proofs.listing.listing.Given as goal

abbrev pub invariant-loop-w : goal.invariant-loop-w
invariant-loop-w l = vec_items l.text ≡ line_of l.stack ++ flat_map line_of (take l.w-index l.code)
