use Rattle.std.proofs.Common.{◌-◌, ◌<◌, suc, length, take, drop, get_or, refl, arith, length-drop}
use Rattle.std.proofs.Math.Seq.{split_at}
use Rattle.mx_lex.specs.declared.TokenKind.TheVariants.{Name}
use Rattle.mx_lex.specs.declared.Token.{Token}
use Rattle.mx_grammar.proofs.source.place.Goals as goal

pub returns : goal.returns
returns c =
    let at = length c.args.tokens.now - c.args.left in
    let inside : at < length c.args.tokens.now = omega (arith, c.requires.some, c.requires.within) in
    let none : Token = record { kind = Name; at = 0; len = 0 } in
    record {
      front = take at c.args.tokens.now;
      token = get_or c.args.tokens.now at none;
      others = drop (suc at) c.args.tokens.now;
      parts = split_at c.args.tokens.now at none inside;
      count = omega (arith, c.requires.within, c.requires.some, length-drop (suc at) c.args.tokens.now);
      is = refl;
    }
