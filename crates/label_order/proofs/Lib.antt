mod Scan
