mod Decimal
