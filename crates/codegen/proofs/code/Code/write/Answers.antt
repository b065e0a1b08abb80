use Rattle.std.proofs.Common.{ℕ, set, refl, ap, rules}
use Rattle.codegen.proofs.Coding.{one_came}
use Rattle.codegen.proofs.code.Code.write.Goals as goal

pub returns : goal.returns
returns c = record {
  writes = ap (λ (w : ℕ). set c.args.self.now.words.now c.args.self.now.len w) c.encode.ensures.any;
  counts = search rules;
  came = λ f. one_came c.args.self.now _ c.encode.result c.args.i c.if-self.false (c.encode.ensures.fits f) refl refl;
  same = search rules;
}
