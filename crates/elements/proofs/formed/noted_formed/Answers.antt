use native.Mathlib.Omega.{arith}
use mathlib.Core.Path.{refl, ap}
use mathlib.Core.Bool.{not}
use Rattle.elements.specs.Octets.{asked_at}
use Rattle.elements.specs.FormedLaws.{and-end, formed-at}
use Rattle.elements.specs.declared.Kind.TheVariants.{Unb, Unh, Unt, Unz, Ush, Usa, Usc, Usr, Ust, Usb, Usx, Usy, Reserved, Qty, Cnt, Other}
use borrow.Author.Rules.{rules}
use Rattle.elements.proofs.formed.noted_formed.Goals as goal

pub value_formed-requires : goal.value_formed-requires
value_formed-requires c = record { le_p = (omega arith, omega arith) }

pub single-requires : goal.single-requires
single-requires c = record { le_p = (omega arith, omega arith) }

pub single_reference-requires : goal.single_reference-requires
single_reference-requires c = record { le_p = (omega arith, omega arith) }

pub cnt_formed-requires : goal.cnt_formed-requires
cnt_formed-requires c = c.requires.fields

pub returns-in-Unb : goal.returns-in-Unb
returns-in-Unb c = formed-at _ (asked_at c.args.g.now.syntax.service c.args.g.now.octets.now c.args.g.now.at) c.requires.k_value Unb c.in-Unb.is c.unb_formed.ensures

pub returns-in-Unh : goal.returns-in-Unh
returns-in-Unh c = formed-at _ (asked_at c.args.g.now.syntax.service c.args.g.now.octets.now c.args.g.now.at) c.requires.k_value Unh c.in-Unh.is c.unh_formed.ensures

pub returns-in-Unt : goal.returns-in-Unt
returns-in-Unt c = formed-at _ (asked_at c.args.g.now.syntax.service c.args.g.now.octets.now c.args.g.now.at) c.requires.k_value Unt c.in-Unt.is c.end_formed.ensures

pub returns-in-Unz : goal.returns-in-Unz
returns-in-Unz c = formed-at _ (asked_at c.args.g.now.syntax.service c.args.g.now.octets.now c.args.g.now.at) c.requires.k_value Unz c.in-Unz.is c.end_formed-in-Unz.ensures

pub returns-in-Ush : goal.returns-in-Ush
returns-in-Ush c = formed-at _ (asked_at c.args.g.now.syntax.service c.args.g.now.octets.now c.args.g.now.at) c.requires.k_value Ush c.in-Ush.is c.ush_formed.ensures

pub returns-in-Usa : goal.returns-in-Usa
returns-in-Usa c = formed-at _ (asked_at c.args.g.now.syntax.service c.args.g.now.octets.now c.args.g.now.at) c.requires.k_value Usa c.in-Usa.is (refl)

pub returns-in-Usc : goal.returns-in-Usc
returns-in-Usc c = formed-at _ (asked_at c.args.g.now.syntax.service c.args.g.now.octets.now c.args.g.now.at) c.requires.k_value Usc c.in-Usc.is (refl)

pub returns-in-Usr : goal.returns-in-Usr
returns-in-Usr c = formed-at _ (asked_at c.args.g.now.syntax.service c.args.g.now.octets.now c.args.g.now.at) c.requires.k_value Usr c.in-Usr.is (and-end c.value_formed.ensures)

pub returns-in-Ust : goal.returns-in-Ust
returns-in-Ust c = formed-at _ (asked_at c.args.g.now.syntax.service c.args.g.now.octets.now c.args.g.now.at) c.requires.k_value Ust c.in-Ust.is c.ust_formed.ensures

pub returns-in-Usb : goal.returns-in-Usb
returns-in-Usb c = formed-at _ (asked_at c.args.g.now.syntax.service c.args.g.now.octets.now c.args.g.now.at) c.requires.k_value Usb c.in-Usb.is (and-end c.single.ensures)

pub returns-in-Usx : goal.returns-in-Usx
returns-in-Usx c = formed-at _ (asked_at c.args.g.now.syntax.service c.args.g.now.octets.now c.args.g.now.at) c.requires.k_value Usx c.in-Usx.is (and-end c.single_reference.ensures)

pub returns-in-Usy : goal.returns-in-Usy
returns-in-Usy c = formed-at _ (asked_at c.args.g.now.syntax.service c.args.g.now.octets.now c.args.g.now.at) c.requires.k_value Usy c.in-Usy.is c.usy_formed.ensures

pub returns-in-Reserved : goal.returns-in-Reserved
returns-in-Reserved c = formed-at _ (asked_at c.args.g.now.syntax.service c.args.g.now.octets.now c.args.g.now.at) c.requires.k_value Reserved c.in-Reserved.is (refl)

pub returns-in-Qty : goal.returns-in-Qty
returns-in-Qty c = formed-at _ (asked_at c.args.g.now.syntax.service c.args.g.now.octets.now c.args.g.now.at) c.requires.k_value Qty c.in-Qty.is (ap not c.requires.fields.any)

pub returns-in-Cnt : goal.returns-in-Cnt
returns-in-Cnt c = formed-at _ (asked_at c.args.g.now.syntax.service c.args.g.now.octets.now c.args.g.now.at) c.requires.k_value Cnt c.in-Cnt.is c.cnt_formed.ensures

pub returns-in-Other : goal.returns-in-Other
returns-in-Other c = formed-at _ (asked_at c.args.g.now.syntax.service c.args.g.now.octets.now c.args.g.now.at) c.requires.k_value Other c.in-Other.is (refl)
